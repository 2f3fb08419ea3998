-- Permutations of the numbers below a count.
use Rattle.std.proofs.Common.{ℕ, zero, suc, ◌<◌, ◌≡◌, sym, subst, arith, List, [], ◌∷◌, ◌++◌}
use Rattle.std.proofs.Common.{length}
use Rattle.std.proofs.lemmas.List.Sorted.{IsPermutation-refl, IsPermutation-sym}
use Rattle.std.proofs.lemmas.List.Sorted.{IsPermutation-trans, IsPermutation-cons}
use Rattle.std.proofs.lemmas.List.Sorted.{IsPermutation-to_front, IsPermutation-remove}
use Rattle.std.proofs.lemmas.List.Sorted.{length_permutation, Contains-permutation}
use Rattle.std.specs.List.{range_with_len, remove, Contains, Sorted.IsPermutation}
use Rattle.aeth_base.proofs.{Members.Contains-others, Ranges.range_with_len-more}

-- The last number in front of a permutation of the others.
IsPermutation-suc : (n : ℕ) (others numbers : List ℕ) → IsPermutation (range_with_len 0 n) others
    → IsPermutation numbers (n ∷ others) → IsPermutation (range_with_len 0 (suc n)) numbers
IsPermutation-suc n others numbers rest split =
    let below = range_with_len 0 n in
    let last_first = IsPermutation-to_front below n in
    let moved = IsPermutation-trans (below ++ n ∷ []) (n ∷ below) (n ∷ others) last_first
    (IsPermutation-cons n below others rest) in
    let joined = IsPermutation-sym numbers (n ∷ others) split in
    subst (λ (front : List ℕ). IsPermutation front numbers)
    (sym (range_with_len-more 0 n n (omega arith)))
    (IsPermutation-trans (below ++ n ∷ []) (n ∷ others) numbers moved joined)

-- A list that has each number below its length is a permutation of these.
pub IsPermutation-from_all : (n : ℕ) (numbers : List ℕ) → length numbers ≡ n
    → ((i : ℕ) → i < n → Contains numbers i) → IsPermutation (range_with_len 0 n) numbers
IsPermutation-from_all zero [] size all = IsPermutation-refl []
IsPermutation-from_all zero (x ∷ xs) size all = absurd (omega arith)
IsPermutation-from_all (suc n) numbers size all =
    let last = all n (omega arith) in
    let others = remove numbers last.0 in
    let split = IsPermutation-remove numbers last.0 n last.1 (sym last.2) in
    let shorter = length_permutation numbers (n ∷ others) split in
    IsPermutation-suc n others numbers
    (IsPermutation-from_all n others (omega arith) (λ i below.
    Contains-others n others i (omega arith)
    (Contains-permutation numbers (n ∷ others) i split (all i (omega arith)))))
    split
