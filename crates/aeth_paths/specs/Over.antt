-- What a link that leaves a list's end is for a search that has a best path. This project's own.
use Rattle.std.proofs.Common.{◌≡◌, ℕ, Option}
use Rattle.aeth_base.specs.declared.ids.LinkId.{LinkId}
use Rattle.aeth_paths.specs.Search.{along, completions, first_from, turn_of}
use Rattle.aeth_paths.specs.Walk.{costs_of, field_of, path_in, priced}
use Rattle.aeth_paths.specs.declared.search.{Goal.Goal, Turn.Turn, Turn.TheVariants.Away}
use Rattle.aeth_paths.specs.declared.search.{Turn.TheVariants.Ends, Turn.TheVariants.Goes}
use Rattle.aeth_paths.specs.declared.prefix.{Prefix.Prefix, Task.Task}
use Rattle.aeth_paths.specs.declared.priced.Priced.{Priced}

-- No path that goes on over the link changes what is best; or it is the last of a path; or it leads to
-- a new router.
abbrev pub IsTurnFor : Task → Goal → Prefix → LinkId → Option Priced → Turn → Type 0
IsTurnFor task goal prefix link best Away = (left : ℕ) → best ≡ priced (costs_of task)
    (first_from (field_of task goal) (path_in best)
    (along (field_of task goal) prefix.path (completions (field_of task goal) left) link))
IsTurnFor task goal prefix link best Ends = turn_of (field_of task goal) prefix.path link ≡ Ends
IsTurnFor task goal prefix link best Goes = turn_of (field_of task goal) prefix.path link ≡ Goes
