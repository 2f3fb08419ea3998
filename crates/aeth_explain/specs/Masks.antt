-- What lists of links of a try are judged by. This project's own.
--
--   TryJudgeData      a chip, the groups of an application, and a try
--   takes, is_held      whether grants that rival a unit occupy a slot
--   AreTaken      the slots that are taken for a unit, a mask for each link
--   IsTryJudge      what holds of every one
use Rattle.std.proofs.Common.{◌≡◌, ◌<◌, ◌&&◌, ℕ, Bool, List, Some, length, slice_get}
use Rattle.std.specs.List.{list_any}
use Rattle.aeth_base.specs.declared.ids.Unit.{Unit as GroupUnit}
use Rattle.aeth_slots.specs.SlotSet.{Slots}
use Rattle.aeth_chip.specs.{Chip.ChipData, Chip.IsChip, declared.node.Link.Link}
use Rattle.aeth_group.specs.{Members.GroupsData, Occupation.occupies, declared.grant.Grant.Grant}
use Rattle.aeth_book.specs.{Book.BookData, Free.is_rival, Free.taken_slots}
use Rattle.aeth_paths.specs.Trials.{IsTrialOf, TrialData, book_of}

-- A chip, the groups of an application, and a try.
pub record TryJudgeData : Type 0 where
  pub chip : ChipData
  pub groups : GroupsData
  pub trial : TrialData

-- Whether a grant that rivals a unit occupies a slot of a link.
abbrev pub takes : List Link → GroupsData → GroupUnit → ℕ → ℕ → Grant → Bool
takes links groups unit l s grant = is_rival groups unit grant && occupies links grant l s

-- Whether one of some grants does. The masks of links are a table of one row.
abbrev pub is_held : List Link → GroupsData → GroupUnit → List Grant → ℕ → ℕ → ℕ → Bool
is_held links groups unit grants u l s = list_any (takes links groups unit l s) grants

-- The mask of each link has the slots that rivals of a unit occupy.
pub record AreTaken (book : BookData) (unit : GroupUnit) (masks : List Slots) : Type 0 where
  pub count : length masks ≡ length book.links
  pub each : (l : ℕ) → l < length book.links → slice_get masks l ≡ Some (taken_slots book unit l)

-- The masks are those of the try, which is one on the chip.
pub record IsTryJudge (judge : TryJudgeData) (masks : List Slots) : Type 0 where
  pub is_chip : IsChip judge.chip
  pub is_trial : IsTrialOf judge.chip judge.trial
  pub taken : AreTaken (book_of judge.chip judge.groups judge.trial) judge.trial.ask.unit masks
