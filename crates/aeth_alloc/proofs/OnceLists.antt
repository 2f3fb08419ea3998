-- Lists in which each item stands once: two of them with the same items are permutations.
use Rattle.std.proofs.Common.{◌≡◌, ◌++◌, suc, List, [], ◌∷◌, Contains, sym, ap, subst, inl, inr}
use Rattle.std.proofs.Common.{arith, AllPairs}
use Rattle.std.proofs.lemmas.List.{Elements.Contains-append_cases, Elements.Contains-append_left}
use Rattle.std.proofs.lemmas.List.{Elements.Contains-append_right, Sorted.IsPermutation-cons}
use Rattle.std.proofs.lemmas.List.{Sorted.IsPermutation-middle, Sorted.IsPermutation-refl}
use Rattle.std.proofs.lemmas.List.{Sorted.IsPermutation-sym, Sorted.IsPermutation-trans}
use Rattle.std.specs.List.Sorted.{IsPermutation}
use Rattle.aeth_base.proofs.Members.{Contains-cases, Contains-here, Contains-nil, Contains-there}

-- No item of the list stands behind itself.
abbrev pub AreOnce : {X : Type 0} → List X → Type 0
AreOnce [] = Unit {0}
AreOnce (x ∷ xs) = (Contains xs x → ⊥) × AreOnce xs

-- What is in a list parts it.
record Parted {X : Type 0} (xs : List X) (x : X) : Type 0 where
  before : List X
  behind : List X
  is : xs ≡ before ++ x ∷ behind

module _ {X : Type 0} where
  parted : (xs : List X) (x : X) → Contains xs x → Parted xs x
  parted [] x has = Contains-nil has
  parted (y ∷ xs) x has = elim (Contains-cases y xs x has) [
    | inl same ↦ record { before = []; behind = xs; is = ap (λ z. z ∷ xs) same }
    | inr later ↦
        let rest = parted xs x later in
        record {
          before = y ∷ rest.before;
          behind = rest.behind;
          is = ap (λ zs. y ∷ zs) rest.is;
        }
  ]

  -- An item is in what is left of a list, or is the one that was taken out.
  other-item : (before : List X) (x : X) (behind : List X) (z : X)
      → Contains (before ++ x ∷ behind) z → (z ≡ x → ⊥) → Contains (before ++ behind) z
  other-item before x behind z has apart =
      elim (Contains-append_cases before (x ∷ behind) z has) [
        | inl first ↦ Contains-append_left before behind z first
        | inr second ↦ elim (Contains-cases x behind z second) [
          | inl same ↦ absurd (apart (sym same))
          | inr later ↦ Contains-append_right before behind z later
        ]
      ]

  all-items : (before : List X) (x : X) (behind : List X) (z : X)
      → Contains (before ++ behind) z → Contains (before ++ x ∷ behind) z
  all-items before x behind z has =
      elim (Contains-append_cases before behind z has) [
        | inl first ↦ Contains-append_left before (x ∷ behind) z first
        | inr later ↦ Contains-append_right before (x ∷ behind) z (Contains-there x behind z later)
      ]

  -- Without one of its items a list lacks it, and each other still stands once.
  once-without : (before : List X) (x : X) (behind : List X) → AreOnce (before ++ x ∷ behind)
      → (Contains (before ++ behind) x → ⊥) × AreOnce (before ++ behind)
  once-without [] x behind once = once
  once-without (y ∷ before) x behind once =
      let rest = once-without before x behind once.1 in (
        (λ has. elim (Contains-cases y (before ++ behind) x has) [
          | inl same ↦ once.0 (subst (Contains (before ++ x ∷ behind)) (sym same)
              (Contains-append_right before (x ∷ behind) x (Contains-here x behind)))
          | inr later ↦ rest.0 later
        ]),
        ((λ has. once.0 (all-items before x behind y has)), rest.1),
      )

  -- Two lists with the same items, each of which stands once, are permutations.
  pub once-permutation : (xs ys : List X) → AreOnce xs → AreOnce ys
      → ((z : X) → Contains xs z → Contains ys z) → ((z : X) → Contains ys z → Contains xs z)
      → IsPermutation xs ys
  once-permutation [] [] one two there back = IsPermutation-refl []
  once-permutation [] (y ∷ ys) one two there back = Contains-nil (back y (Contains-here y ys))
  once-permutation (x ∷ xs) ys one two there back =
      let part = parted ys x (there x (Contains-here x xs)) in
      let before = part.before in
      let behind = part.behind in
      let rest = once-without before x behind (subst AreOnce part.is two) in
      let shorter : IsPermutation xs (before ++ behind) =
      once-permutation xs (before ++ behind) one.1 rest.1
      (λ z has. other-item before x behind z
      (subst (λ zs. Contains zs z) part.is (there z (Contains-there x xs z has)))
      (λ same. one.0 (subst (Contains xs) same has)))
      (λ z has. elim (Contains-cases x xs z (back z (subst (λ zs. Contains zs z) (sym part.is)
      (all-items before x behind z has)))) [
        | inl same ↦ absurd (rest.0 (subst (Contains (before ++ behind)) (sym same) has))
        | inr later ↦ later
      ]) in
      subst (IsPermutation (x ∷ xs)) (sym part.is)
      (IsPermutation-trans (x ∷ xs) (x ∷ (before ++ behind)) (before ++ x ∷ behind)
      (IsPermutation-cons x xs (before ++ behind) shorter)
      (IsPermutation-sym (before ++ x ∷ behind) (x ∷ (before ++ behind))
      (IsPermutation-middle before x behind)))

  -- In a list of which no two are so related, as each is to itself, each item stands once.
  pub once-pairs : (Apart : X → X → Type 0) → ((x : X) → Apart x x → ⊥) → (xs : List X)
      → AllPairs Apart xs → AreOnce xs
  once-pairs Apart never [] pairs = tt
  once-pairs Apart never (x ∷ xs) pairs = (
    (λ (k, within, at). never x (subst (Apart x) at (pairs 0 (suc k) x (omega arith) (omega arith)))),
    once-pairs Apart never xs (λ i j d below within.
        pairs (suc i) (suc j) d (omega arith) (omega arith)),
  )
