-- Names of an application's parts tell the parts.
use Rattle.std.proofs.Common.{◌≡◌, ℕ, List, Some, map, slice_get}
use Rattle.std.specs.{List.IsDistinct, List.position, Str.bytes_eq}
use Rattle.aeth_base.proofs.{DistinctNames.position-own, Lists.map-at}

-- A part that is looked up by its name is found.
pub own_place : {X : Type 0} (name : X → List ℕ) (xs : List X) (i : ℕ) (x : X)
    → IsDistinct bytes_eq (map name xs) → slice_get xs i ≡ Some x
    → position (bytes_eq (name x)) (map name xs) ≡ Some i
own_place name xs i x apart at =
    position-own (map name xs) i (name x) apart (map-at name xs i x at)
