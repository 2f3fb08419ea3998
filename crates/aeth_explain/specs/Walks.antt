-- What a walk that certifies a try comes to. This project's own.
--
--   may_have      a path that the try may take, and live
--   IsWalked      such a path, or the shortest cuts of some lists
--   IsTried      a try that is certified, beside what judges its lists
use Rattle.std.proofs.Common.{◌≡◌, ◌&&◌, ◌++◌, Bool, true, false, List, [], filter}
use Rattle.std.specs.List.{list_any}
use Rattle.aeth_base.specs.declared.ids.LinkId.{LinkId}
use Rattle.aeth_chip.specs.Chip.{ChipData}
use Rattle.aeth_group.specs.Members.{GroupsData}
use Rattle.aeth_paths.specs.{Candidates.is_live, Trials.TrialData, Trials.book_of}
use Rattle.aeth_explain.specs.{Certificate.is_first_cut, Fronts.IsListed, Masks.TryJudgeData}
use Rattle.aeth_explain.specs.{TryPaths.may_take, declared.open_paths.Listed.Listed}

module _ (chip : ChipData) (groups : GroupsData) (trial : TrialData) where
  -- Whether the try may take a path, and it is live.
  abbrev pub may_have : List LinkId → Bool
  may_have path = may_take chip trial path && is_live (book_of chip groups trial) trial.ask path

  -- What a walk over some lists comes to: one of them is such a path; or none is, and their shortest
  -- cuts stand behind what was put down before.
  abbrev pub IsWalked : List (List LinkId) → List (List LinkId) → Bool → List (List LinkId) → Type 0
  IsWalked lists old true new = list_any may_have lists ≡ true
  IsWalked lists old false new =
      (list_any may_have lists ≡ false) × (new ≡ old ++ filter (is_first_cut chip groups trial) lists)

-- A try on a chip of which nothing is listed, so that each path which it may take is open; and its
-- judge.
pub record IsTried (judge : TryJudgeData) (listed : Listed) : Type 0 where
  pub is_listed : IsListed listed
  pub chip : judge.chip ≡ listed.chip.now
  pub trial : judge.trial ≡ listed.trial.now
  pub none : listed.cuts.now ≡ []
