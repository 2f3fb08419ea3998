-- What indexing has read.
use Rattle.std.proofs.Common.{◌≡◌, ◌∙◌, ◌<◌, ℕ, List, Some, ap, get_or, length, slice_get, sym}
use Rattle.std.proofs.lemmas.Option.{slice_get-get_or}

-- What was read at a place of a list stands there.
pub read_at : {X : Type 0} (xs : List X) (i : ℕ) (x : X) → i < length xs → x ≡ get_or xs i x
    → slice_get xs i ≡ Some x
read_at xs i x within is = slice_get-get_or xs i x within ∙ ap Some (sym is)
