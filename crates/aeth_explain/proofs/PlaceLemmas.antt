-- Between which places the lists are that begin with a path, and those with which it begins.
use Rattle.std.proofs.Common.{◌≡◌, ◌≤◌, ◌++◌, ◌⊎◌, Bool, true, false, List, [], ◌∷◌, arith, eqb}
use Rattle.std.proofs.Common.{inl, inr, refl, sym, eq-eqb, eqb-true}
use Rattle.std.proofs.lemmas.Bool.{and_from, and_parts, false_from_ne_true}
use Rattle.std.specs.List.{list_any}
use Rattle.aeth_base.{proofs.ExtremeLemmas.true_and_false, proofs.Members.Contains-slice_get}
use Rattle.aeth_base.{proofs.Members.slice_get-Contains, specs.declared.ids.LinkId.LinkId}
use Rattle.aeth_group.proofs.ListLemmas.{any_from_passes, passes_from_any}
use Rattle.aeth_explain.specs.{Cuts.begins_with, Places.AreWithin, Verdict.is_covered}
use Rattle.aeth_explain.specs.{declared.places.Places.Places}

-- Of two lists with which a path begins one begins with the other.
begins-either : (cut front rest : List LinkId) → begins_with cut (front ++ rest) ≡ true
    → (begins_with cut front ≡ true) ⊎ (begins_with front cut ≡ true)
begins-either [] front rest is = inl refl
begins-either (link ∷ cut) [] rest is = inr refl
begins-either (link ∷ cut) (first ∷ front) rest is =
    let (same, later) = and_parts (eqb link.0 first.0) (begins_with cut (front ++ rest)) is in
    elim (begins-either cut front rest later) [
      | inl begins ↦ inl (and_from _ _ same begins)
      | inr begins ↦
          inr (and_from _ _ (eq-eqb first.0 link.0 (sym (eqb-true link.0 first.0 same))) begins)
    ]

-- What begins with a longer list begins with the list.
begins-front : (front rest cut : List LinkId) → begins_with (front ++ rest) cut ≡ true
    → begins_with front cut ≡ true
begins-front [] rest cut is = refl
begins-front (link ∷ front) rest [] is = absurd (cc is)
begins-front (link ∷ front) rest (first ∷ cut) is =
    let (same, later) = and_parts (eqb link.0 first.0) (begins_with (front ++ rest) cut) is in
    and_from _ _ same (begins-front front rest cut later)

module _ (cuts : List (List LinkId)) (front : List LinkId) (places : Places)
    (within : AreWithin (begins_with front) cuts places) (rest : List LinkId) where
  -- The lists that begin with a longer path are among those that begin with the path.
  pub longer-within : AreWithin (begins_with (front ++ rest)) cuts places
  longer-within place cut at begins = within place cut at (begins-front front rest cut begins)

  -- So are those with which the longer path begins, where the path begins with none.
  pub covers-within : is_covered cuts front ≡ false
      → AreWithin (λ cut. begins_with cut (front ++ rest)) cuts places
  covers-within bare place cut at begins = elim (begins-either cut front rest begins) [
    | inl covers ↦
        absurd (true_and_false _ (any_from_passes (λ cut. begins_with cut front) cuts cut
        (Contains-slice_get cuts place cut at) covers) bare)
    | inr goes ↦ within place cut at goes
  ]

-- Where no place is between two no list passes.
pub none-within : (test : List LinkId → Bool) (cuts : List (List LinkId)) (places : Places)
    → AreWithin test cuts places → places.to ≤ places.from → list_any test cuts ≡ false
none-within test cuts places within none = false_from_ne_true (list_any test cuts) (λ passes.
    let found = passes_from_any test cuts passes in
    let (place, at) = slice_get-Contains cuts found.item found.is_in in
    let inside = within place found.item at found.passes in
    omega (arith, inside.from, inside.to, none))
