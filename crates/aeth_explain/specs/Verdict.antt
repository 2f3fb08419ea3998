-- What is found of a certificate. This project's own.
--
--   IsOpen, IsLeastOpen      a path that begins with none of its cuts, and the least one
--   is_covered, is_open, open_paths      the same as tests, and all such paths
--   by_open, by_cut, verdict_of      the first list that is no cut, else the least open path, else
--                                    that the lists are complete
use Rattle.std.proofs.Common.{◌≡◌, ◌≢◌, ◌+◌, ◌&&◌, ℕ, Bool, false, not, List, [], ◌∷◌, Contains}
use Rattle.std.proofs.Common.{Option, Some, None, filter, position}
use Rattle.std.specs.{List.list_any, declared.cmp.Ordering.TheVariants.Less}
use Rattle.aeth_base.specs.declared.ids.LinkId.{LinkId}
use Rattle.aeth_chip.specs.Chip.{ChipData}
use Rattle.aeth_group.specs.Members.{GroupsData}
use Rattle.aeth_paths.specs.Trials.{TrialData}
use Rattle.aeth_explain.specs.Cuts.{begins_with, is_cut}
use Rattle.aeth_explain.specs.Order.{dictionary}
use Rattle.aeth_explain.specs.TryPaths.{MayTake, leaving_lists, may_take}
use Rattle.aeth_explain.specs.declared.verdict.CutVerdict.{CutVerdict}
use Rattle.aeth_explain.specs.declared.verdict.CutVerdict.TheVariants.{Complete, NotDead, Open}

module _ (chip : ChipData) (trial : TrialData) (cuts : List (List LinkId)) where
  -- An open path: the try may take it, and it begins with none of the lists.
  pub record IsOpen (path : List LinkId) : Type 0 where
    pub may_take : MayTake chip trial path
    pub bare : (cut : List LinkId) → Contains cuts cut → begins_with cut path ≡ false

  -- The least one: it comes before each other.
  pub record IsLeastOpen (path : List LinkId) : Type 0 where
    pub is_open : IsOpen path
    pub least : (other : List LinkId) → IsOpen other → other ≢ path → dictionary path other ≡ Less

-- Whether a path begins with one of some lists.
abbrev pub is_covered : List (List LinkId) → List LinkId → Bool
is_covered cuts path = list_any (λ cut. begins_with cut path) cuts

-- Whether a path is open: the try may take it, and it begins with none of the lists.
abbrev pub is_open : ChipData → TrialData → List (List LinkId) → List LinkId → Bool
is_open chip trial cuts path = may_take chip trial path && not (is_covered cuts path)

-- The open paths, in the order of a dictionary.
abbrev pub open_paths : ChipData → TrialData → List (List LinkId) → List (List LinkId)
open_paths chip trial cuts = filter (is_open chip trial cuts) (leaving_lists chip trial.from)

-- What is found where all lists are cuts, by the open paths.
abbrev pub by_open : List (List LinkId) → CutVerdict
by_open [] = Complete
by_open (path ∷ others) = Open path

-- What is found, by the first list that is no cut, counted from 0, and by the open paths.
abbrev pub by_cut : Option ℕ → List (List LinkId) → CutVerdict
by_cut (Some place) paths = NotDead (place + 1)
by_cut None paths = by_open paths

-- The first list that is no cut, counted from 1, else the least open path, else that it is
-- complete.
unfoldable pub verdict_of : ChipData → GroupsData → TrialData → List (List LinkId) → CutVerdict
verdict_of chip groups trial cuts =
    by_cut (position (λ cut. not (is_cut chip groups trial cut)) cuts) (open_paths chip trial cuts)
