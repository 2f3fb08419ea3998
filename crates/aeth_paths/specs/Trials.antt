-- A channel's try, told without a book: what a certificate of its refusal rests on. This project's own.
--
--   TrialData, Ascend, IsTrial      a try, and what holds of every one
--   book_of, IsSized      its grants as the data of a book, of which less is known than of a book
--   IsTrialOf      a try on a chip
use Rattle.std.proofs.Common.{ℕ, ◌<◌, ◌≤◌, List, All, length, map}
use Rattle.std.specs.List.Sorted.{IsStrictlyIncreasing}
use Rattle.aeth_base.specs.{Limits.max_slots, declared.ids.NiId.NiId}
use Rattle.aeth_chip.specs.Chip.{ChipData}
use Rattle.aeth_group.specs.{Members.GroupsData, declared.grant.Grant.Grant}
use Rattle.aeth_book.specs.Book.{BookData, IsFit}
use Rattle.aeth_paths.specs.declared.request.Request.{Request}

-- A channel's try: what it asks, its turn, the grants that were made before, the interfaces from which
-- and to which it may lead, and those that have room for one of its cores alone.
pub record TrialData : Type 0 where
  pub ask : Request
  pub turn : ℕ
  pub grants : List Grant
  pub from : List NiId
  pub to : List NiId
  pub crowded : List NiId

-- Interfaces ascend, and none stands twice.
abbrev pub Ascend : List NiId → Type 0
Ascend interfaces = IsStrictlyIncreasing (map (λ (ni : NiId). ni.0) interfaces)

-- What holds of every try: its lists of interfaces ascend.
pub record IsTrial (trial : TrialData) : Type 0 where
  pub from : Ascend trial.from
  pub to : Ascend trial.to
  pub crowded : Ascend trial.crowded

-- The grants of a try as the data of a book. They may meet, and then there is no such book.
abbrev pub book_of : ChipData → GroupsData → TrialData → BookData
book_of chip groups trial = record {
  size = chip.slots;
  links = chip.links;
  groups = groups;
  grants = trial.grants;
}

-- The slot tables have at least one slot, and no more than a table may have.
pub record IsSized (book : BookData) : Type 0 where
  pub some_size : 1 ≤ book.size
  pub within : book.size ≤ max_slots

-- The try is one on the chip: its grants and its interfaces are of it.
pub record IsTrialOf (chip : ChipData) (trial : TrialData) : Type 0 where
  pub grants : All (IsFit chip.slots (length chip.links)) trial.grants
  pub from : All (λ (ni : NiId). ni.0 < length chip.nis) trial.from
  pub to : All (λ (ni : NiId). ni.0 < length chip.nis) trial.to
  pub crowded : All (λ (ni : NiId). ni.0 < length chip.nis) trial.crowded
