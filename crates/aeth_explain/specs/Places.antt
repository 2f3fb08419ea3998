-- The places of some of a certificate's lists. This project's own.
--
--   IsWithin      a place is between two
--   AreWithin      all lists that pass a test are between two places
use Rattle.std.proofs.Common.{◌≡◌, ◌<◌, ◌≤◌, ℕ, Bool, true, List, Some, slice_get}
use Rattle.aeth_base.specs.declared.ids.LinkId.{LinkId}
use Rattle.aeth_explain.specs.declared.places.Places.{Places}

-- A place is one from the first on, up to the second and without it.
pub record IsWithin (places : Places) (place : ℕ) : Type 0 where
  pub from : places.from ≤ place
  pub to : place < places.to

-- All lists that pass a test are between two places.
abbrev pub AreWithin : (List LinkId → Bool) → List (List LinkId) → Places → Type 0
AreWithin test cuts places = (place : ℕ) (cut : List LinkId) → slice_get cuts place ≡ Some cut
    → test cut ≡ true → IsWithin places place
