-- Names that differ are found where they stand.
use Rattle.std.proofs.Common.{◌≡◌, ◌∙◌, ℕ, zero, suc, true, false, List, [], ◌∷◌, length, Some}
use Rattle.std.proofs.Common.{slice_get, refl, sym, ap, inl, inr, arith, lt-ltb}
use Rattle.std.proofs.lemmas.Bool.{cases_Bool, cond-true, false≢true}
use Rattle.std.proofs.lemmas.Map.Keys.{IsDistinct-tail, apart_from_distinct}
use Rattle.std.proofs.lemmas.Option.{get_or_from_slice_get, same_Some, slice_get_within}
use Rattle.std.proofs.lemmas.Slice.Eq.{bytes_eq-Decides}
use Rattle.std.specs.{List.IsDistinct, List.position, List.position_or_len, Str.bytes_eq}

-- The first place of a name among names that differ is its own.
first_place : (names : List (List ℕ)) (i : ℕ) (name : List ℕ) → IsDistinct bytes_eq names
    → slice_get names i ≡ Some name → position_or_len (bytes_eq name) names ≡ i
first_place [] i name apart at = absurd (cc at)
first_place (x ∷ names) zero name apart at =
    let here : bytes_eq name x ≡ true =
    (bytes_eq-Decides name x).1 (sym (same_Some x name at)) in
    rw here refl
first_place (x ∷ names) (suc i) name apart at =
    let within = slice_get_within names i name at in
    let there = get_or_from_slice_get names i name name at in
    let apart_there = apart_from_distinct {K = List ℕ} bytes_eq (x ∷ names) zero (suc i) name apart
    (omega arith) (omega arith) in
    let differs : bytes_eq x name ≡ false = ap (bytes_eq x) (sym there) ∙ apart_there in
    let later : bytes_eq name x ≡ false = elim (cases_Bool (bytes_eq name x)) [
      | inl same ↦
          let is : x ≡ name = sym ((bytes_eq-Decides name x).0 same) in
          absurd (false≢true (sym differs ∙ (bytes_eq-Decides x name).1 is))
      | inr other ↦ other
    ] in
    let rest = first_place names i name (IsDistinct-tail bytes_eq x names apart) at in
    rw later (omega arith)

-- A name among names that differ is found at its own place.
pub position-own : (names : List (List ℕ)) (i : ℕ) (name : List ℕ) → IsDistinct bytes_eq names
    → slice_get names i ≡ Some name → position (bytes_eq name) names ≡ Some i
position-own names i name apart at =
    let within = slice_get_within names i name at in
    rw (first_place names i name apart at) (cond-true _ _ _ (lt-ltb i (length names) within))
