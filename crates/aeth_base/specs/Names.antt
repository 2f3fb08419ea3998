-- Names in an order, and the place at which each stands first.
-- This project's own.
use Rattle.std.proofs.Common.{◌≡◌, ℕ, List}
use Rattle.std.specs.{List.position, Str.bytes_eq}
use Rattle.indexmap.specs.IndexMap.{IndexMap, get}

-- Each name has the place at which it stands first in a list, and no other name has one.
abbrev pub HaveFirstPlaces : {S : Type 0} → List (List ℕ) → IndexMap (List ℕ) ℕ S → Type 0
HaveFirstPlaces names places = (name : List ℕ) → get bytes_eq places name ≡ position (bytes_eq name) names
