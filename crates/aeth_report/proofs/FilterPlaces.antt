-- Places of what a filter keeps: as many come before as are kept of those before.
use Rattle.std.proofs.Common.{◌≡◌, ◌∙◌, ◌<◌, ◌+◌, ℕ, zero, suc, Bool, true, List, [], ◌∷◌, Some, ap}
use Rattle.std.proofs.Common.{arith, filter, inl, inr, length, refl, slice_get, take}
use Rattle.std.proofs.lemmas.{Bool.cases_Bool, Option.same_Some}

module _ {X : Type 0} (test : X → Bool) where
  -- How many pass before a number.
  abbrev pub ahead : List X → ℕ → ℕ
  ahead xs k = length (filter test (take k xs))

  -- What passes stands there.
  pub filter-at : (xs : List X) (k : ℕ) (x : X) → slice_get xs k ≡ Some x → test x ≡ true
      → slice_get (filter test xs) (ahead xs k) ≡ Some x
  filter-at [] k x at passes = absurd (cc at)
  filter-at (y ∷ ys) zero x at passes =
      let here : test y ≡ true = ap test (same_Some y x at) ∙ passes in
      rw here at
  filter-at (y ∷ ys) (suc k) x at passes =
      let rest = filter-at ys k x at passes in
      elim (cases_Bool (test y)) [
        | inl is ↦ rw is rest
        | inr isnt ↦ rw isnt rest
      ]

  -- What stands at a place has a number with so many before.
  pub filter-from : (xs : List X) (i : ℕ) (x : X) → slice_get (filter test xs) i ≡ Some x
      → (k : ℕ) × (slice_get xs k ≡ Some x) × (ahead xs k ≡ i)
  filter-from [] i x at = absurd (cc at)
  filter-from (y ∷ ys) zero x at = elim (cases_Bool (test y)) [
    | inl is ↦ (0, rw is at at, refl)
    | inr isnt ↦
        let rest = filter-from ys 0 x (rw isnt at at) in
        (suc rest.0, rest.1, rw isnt rest.2)
  ]
  filter-from (y ∷ ys) (suc i) x at = elim (cases_Bool (test y)) [
    | inl is ↦
        let rest = filter-from ys i x (rw is at at) in
        (suc rest.0, rest.1, rw is (ap suc rest.2))
    | inr isnt ↦
        let rest = filter-from ys (suc i) x (rw isnt at at) in
        (suc rest.0, rest.1, rw isnt rest.2)
  ]

  -- No two that pass have as many before.
  pub filter-once : (xs : List X) (k l : ℕ) (x y : X) → slice_get xs k ≡ Some x
      → slice_get xs l ≡ Some y → test x ≡ true → test y ≡ true → ahead xs k ≡ ahead xs l → k ≡ l
  filter-once [] k l x y at_x at_y one two same = absurd (cc at_x)
  filter-once (z ∷ zs) zero zero x y at_x at_y one two same = refl
  filter-once (z ∷ zs) zero (suc l) x y at_x at_y one two same =
      let here : test z ≡ true = ap test (same_Some z x at_x) ∙ one in
      let apart : 0 ≡ suc (ahead zs l) = rw here at same in
      absurd (omega (arith, apart))
  filter-once (z ∷ zs) (suc k) zero x y at_x at_y one two same =
      let here : test z ≡ true = ap test (same_Some z y at_y) ∙ two in
      let apart : suc (ahead zs k) ≡ 0 = rw here at same in
      absurd (omega (arith, apart))
  filter-once (z ∷ zs) (suc k) (suc l) x y at_x at_y one two same =
      let rest = filter-once zs k l x y at_x at_y one two in
      elim (cases_Bool (test z)) [
        | inl is ↦
            let both : suc (ahead zs k) ≡ suc (ahead zs l) = rw is at same in
            ap suc (rest (omega (arith, both)))
        | inr isnt ↦ ap suc (rest (rw isnt at same))
      ]
