-- Use cases that a command names: a step that reads nothing.
-- This project's own.
use Rattle.std.proofs.Common.{ℕ, List, Option, Some, None, codes, map}
use Rattle.std.specs.{List.position, Str.bytes_eq}
use Rattle.aeth_app.specs.App.{AppData}
use Rattle.aeth_base.specs.Faults.{BrokenRule}
use Rattle.aeth_base.specs.declared.{ids.UseId.UseId, shown.Shown.TheVariants.Word}
use Rattle.aeth_answers.specs.{Refusal.refused_file, Task.Judging, Task.ends}

-- The rule that a name breaks that no use case has.
abbrev pub unknown_use : List ℕ → BrokenRule
unknown_use name = record { rule = 1; name = codes "UnknownUse"; place = 0; value = Word name }

-- A task goes on with the use case of this number, and else ends by the name that none has.
abbrev pub on_use : List ℕ → Option ℕ → Judging UseId
on_use name None next = ends (refused_file (codes "use") (unknown_use name))
on_use name (Some place) next = next (record { 0 = place })

-- The use case of a name.
abbrev pub named_use : AppData → List ℕ → Judging UseId
named_use app name next =
    on_use name (position (bytes_eq name) (map (λ one. one.name) app.uses)) next
