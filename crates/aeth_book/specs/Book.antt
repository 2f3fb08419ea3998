-- What a book of grants is seen as, and what holds of every book. This project's own.
use Rattle.std.proofs.Common.{◌≡◌, ◌≤◌, ◌<◌, ℕ, ◌∷◌, [], ◌++◌, true, List, All, AllPairs, Some}
use Rattle.std.proofs.Common.{length, slice_get}
use Rattle.aeth_app.specs.Limits.{max_uses}
use Rattle.aeth_chip.specs.{Chip.ChipData, Limits.max_links, declared.node.Link.Link}
use Rattle.aeth_base.specs.Limits.{max_link_delay, max_slots}
use Rattle.aeth_group.specs.{declared.grant.Grant.Grant, Members.GroupsData, Occupation.holds_in}

-- A book: the size of the slot tables, the links of the chip, the groups of the application, and
-- the grants in the order in which they were made.
pub record BookData : Type 0 where
  pub size : ℕ
  pub links : List Link
  pub groups : GroupsData
  pub grants : List Grant

-- The book of a chip and of groups without grants.
abbrev pub empty_book : ChipData → GroupsData → BookData
empty_book chip groups = record {
  size = chip.slots;
  links = chip.links;
  groups = groups;
  grants = [];
}

-- The book with one more grant.
abbrev pub with_grant : BookData → Grant → BookData
with_grant book grant = record {
  size = book.size;
  links = book.links;
  groups = book.groups;
  grants = book.grants ++ grant ∷ [];
}

-- The grant is of the book's chip.
pub record IsFit (size links : ℕ) (grant : Grant) : Type 0 where
  pub slots : grant.slots.size ≡ size
  pub path : All (λ link. link.0 < links) grant.path

-- No use case has both grants at a slot of a link.
abbrev pub AreApart : GroupsData → List Link → Grant → Grant → Type 0
AreApart groups links a b = (u l s : ℕ) → holds_in groups links u l s a ≡ true
    → holds_in groups links u l s b ≡ true → ⊥

-- Each link delays by at most so many cycles.
abbrev pub AreShort : List Link → Type 0
AreShort links = (l : ℕ) (link : Link) → slice_get links l ≡ Some link → link.delay ≤ max_link_delay

-- What holds of every book.
pub record IsBook (book : BookData) : Type 0 where
  pub some_size : 1 ≤ book.size
  pub within : book.size ≤ max_slots
  pub few_links : length book.links ≤ max_links
  pub delays : AreShort book.links
  pub few_uses : length book.groups.uses ≤ max_uses
  pub fit : All (IsFit book.size (length book.links)) book.grants
  pub apart : AllPairs (AreApart book.groups book.links) book.grants
