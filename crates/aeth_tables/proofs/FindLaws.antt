-- What `find` finds.
use Rattle.std.proofs.Common.{◌≡◌, ◌∙◌, ◌<◌, ℕ, zero, suc, Bool, true, false, cond, List, [], ◌∷◌}
use Rattle.std.proofs.Common.{Some, None, Contains, slice_get, refl, sym, ap, inl, inr, subst}
use Rattle.std.proofs.Common.{arith, find}
use Rattle.std.proofs.lemmas.{Bool.false≢true, Option.none-some, Option.same_Some}
use Rattle.aeth_base.proofs.Members.{Contains-cases, Contains-here, Contains-nil, Contains-there}

-- What is found is in the list, and passes the test.
pub found_is : {X : Type 0} (test : X → Bool) (xs : List X) (x : X) → find test xs ≡ Some x
    → Contains xs x × (test x ≡ true)
found_is test [] x found = absurd (none-some x found)
found_is {X} test (y ∷ xs) x found =
    let cases : (b : Bool) → test y ≡ b → cond b (Some y) (find test xs) ≡ Some x
    → Contains (y ∷ xs) x × (test x ≡ true) =
    elim [
      | true ↦ λ is here.
          let same : y ≡ x = same_Some y x here in
          (subst (λ (z : X). Contains (y ∷ xs) z) same (Contains-here y xs), sym (ap test same) ∙ is)
      | false ↦ λ is later.
          let rest = found_is test xs x later in (Contains-there y xs x rest.0, rest.1)
    ]
    in cases (test y) refl found

-- Where an item passes the test, one is found.
pub found_some : {X : Type 0} (test : X → Bool) (xs : List X) (x : X) → Contains xs x
    → test x ≡ true → (y : X) × (find test xs ≡ Some y)
found_some test [] x has passes = Contains-nil has
found_some {X} test (y ∷ xs) x has passes =
    let cases : (b : Bool) → test y ≡ b
    → (z : X) × (cond b (Some y) (find test xs) ≡ Some z) =
    elim [
      | true ↦ λ is. (y, refl)
      | false ↦ λ is. elim (Contains-cases y xs x has) [
        | inl same ↦ absurd (false≢true (sym is ∙ ap test same ∙ passes))
        | inr later ↦ found_some test xs x later passes
      ]
    ]
    in cases (test y) refl

-- Where no item passes, none is found.
pub find-none : {X : Type 0} (test : X → Bool) (xs : List X)
    → ((k : ℕ) (x : X) → slice_get xs k ≡ Some x → test x ≡ false) → find test xs ≡ None
find-none test [] fails = refl
find-none test (x ∷ xs) fails =
    ap (λ (b : Bool). cond b (Some x) (find test xs)) (fails 0 x refl)
    ∙ find-none test xs (λ k. fails (suc k))

-- The first that passes is found.
pub find-at : {X : Type 0} (test : X → Bool) (xs : List X) (n : ℕ) (x : X)
    → ((k : ℕ) (y : X) → k < n → slice_get xs k ≡ Some y → test y ≡ false)
    → slice_get xs n ≡ Some x → test x ≡ true → find test xs ≡ Some x
find-at test [] n x fails at passes = absurd (cc at)
find-at test (y ∷ ys) zero x fails at passes =
    ap (λ (b : Bool). cond b (Some y) (find test ys)) (ap test (same_Some y x at) ∙ passes) ∙ at
find-at test (y ∷ ys) (suc n) x fails at passes =
    ap (λ (b : Bool). cond b (Some y) (find test ys)) (fails 0 y (omega arith) refl)
    ∙ find-at test ys n x (λ k z less. fails (suc k) z (omega arith)) at passes
