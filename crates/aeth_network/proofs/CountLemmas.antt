-- How many items of a list pass a test.
use Rattle.std.proofs.Common.{◌≡◌, ◌≤◌, ◌+◌, ℕ, zero, suc, Bool, true, List, [], ◌∷◌, arith, cond}
use Rattle.std.proofs.Common.{drop, inl, inr, All, count_by}
use Rattle.std.proofs.lemmas.Bool.{cases_Bool}
use Rattle.std.proofs.lemmas.List.{Elements.All-head, Elements.All-tail, Sums.sum_by-cons}
use Rattle.aeth_base.proofs.Lists.{count_by-no, count_by-yes}

-- A word that passes a test counts once more.
pub count-cons : {X : Type 0} (p : X → Bool) (x : X) (xs : List X)
    → count_by p (x ∷ xs) ≡ cond (p x) 1 0 + count_by p xs
count-cons p x xs = sum_by-cons (λ y. cond (p y) 1 0) x xs

-- A test that passes for no more rows than another counts no more.
pub count-weaker : {X : Type 0} (p q : X → Bool) (xs : List X)
    → ((x : X) → p x ≡ true → q x ≡ true) → count_by p xs ≤ count_by q xs
count-weaker p q [] passes = omega arith
count-weaker p q (x ∷ xs) passes =
    let later = count-weaker p q xs passes in
    let other = count-cons q x xs in
    elim (cases_Bool (p x)) [
      | inl here ↦
          let more = count_by-yes p x xs here in
          let fewer = count_by-yes q x xs (passes x here) in
          omega arith
      | inr not_here ↦ let more = count_by-no p x xs not_here in omega arith
    ]

-- Nor does it of the later rows.
pub count-behind : {X : Type 0} (p q : X → Bool) (k : ℕ) (xs : List X)
    → All (λ x. p x ≡ true → q x ≡ true) (drop k xs) → count_by p (drop k xs) ≤ count_by q xs
count-behind p q zero [] passes = omega arith
count-behind p q (suc k) [] passes = omega arith
count-behind {X} p q zero (x ∷ xs) passes =
    let holds = λ (y : X). p y ≡ true → q y ≡ true in
    let later = count-behind p q zero xs (All-tail holds x xs passes) in
    let other = count-cons q x xs in
    let first = All-head holds x xs passes in
    elim (cases_Bool (p x)) [
      | inl here ↦
          let more = count_by-yes p x xs here in
          let fewer = count_by-yes q x xs (first here) in
          omega arith
      | inr not_here ↦ let more = count_by-no p x xs not_here in omega arith
    ]
count-behind p q (suc k) (x ∷ xs) passes =
    let later = count-behind p q k xs passes in
    let more = count-cons q x xs in
    omega arith
