-- Laws of the numbers of classes.
use Rattle.std.proofs.Common.{◌≡◌, ◌∙◌, ◌<◌, ◌≤◌, ℕ, Bool, true, false, eqb, length, get_or, sym}
use Rattle.std.proofs.Common.{ap, subst, inl, inr, arith, eq-eqb, eqb-true}
use Rattle.std.proofs.lemmas.Bool.{both_ways, cases_lt, cases_order}
use Rattle.std.proofs.lemmas.List.FromFn.{get_or-range_with_len, length-range_with_len}
use Rattle.std.proofs.lemmas.List.Sums.{fails_before_first, passes_at_first, position_or_len_is}
use Rattle.std.proofs.lemmas.List.Sums.{prefix_len-le-length}
use Rattle.std.specs.List.{range_with_len}
use Rattle.aeth_group.specs.Numbering.{class_of, first_with, firsts_below, is_first}
use Rattle.aeth_group.proofs.Ranges.{count_by-range_lt, count_by-range_same, nth_passer}

-- ---- the least number that belongs to a number

-- The number at a place of a range.
at_place : (test : ℕ → Bool) (count k : ℕ) → k < count
    → test (get_or (range_with_len 0 count) k 0) ≡ test k
at_place test count k low =
    let there = get_or-range_with_len 0 count k 0 low in
    let is : get_or (range_with_len 0 count) k 0 ≡ k = omega arith in
    ap test is

-- The least number is where no lesser number belongs to it, and it does unless it is the count.
pub first_with_is : (joined : ℕ → ℕ → Bool) (count u first : ℕ) → first ≤ count
    → ((k : ℕ) → k < first → joined u k ≡ false) → (first < count → joined u first ≡ true)
    → first_with joined count u ≡ first
first_with_is joined count u first few none some =
    let size = length-range_with_len 0 count in
    position_or_len_is (joined u) (range_with_len 0 count) first 0 (omega arith)
    (λ k low. at_place (joined u) count k (omega arith) ∙ none k low)
    (λ low. at_place (joined u) count first (omega arith) ∙ some (omega arith))

-- The least number is at most the count.
pub first_with-le : (joined : ℕ → ℕ → Bool) (count u : ℕ) → first_with joined count u ≤ count
first_with-le joined count u =
    let size = length-range_with_len 0 count in
    let most : first_with joined count u ≤ length (range_with_len 0 count) =
    prefix_len-le-length _ (range_with_len 0 count) in
    omega arith

-- No lesser number belongs to it.
pub none_before_first : (joined : ℕ → ℕ → Bool) (count u k : ℕ)
    → k < first_with joined count u → joined u k ≡ false
none_before_first joined count u k low =
    let most = first_with-le joined count u in
    sym (at_place (joined u) count k (omega arith))
    ∙ fails_before_first (joined u) (range_with_len 0 count) k 0 low

-- It belongs to it, unless none does.
pub first_belongs : (joined : ℕ → ℕ → Bool) (count u : ℕ) → first_with joined count u < count
    → joined u (first_with joined count u) ≡ true
first_belongs joined count u low =
    let size = length-range_with_len 0 count in
    sym (at_place (joined u) count (first_with joined count u) low)
    ∙ passes_at_first (joined u) (range_with_len 0 count) 0 (omega arith)

-- It is at most any number that belongs to it.
pub first_with-least : (joined : ℕ → ℕ → Bool) (count u v : ℕ) → joined u v ≡ true
    → first_with joined count u ≤ v
first_with-least joined count u v is = elim (cases_lt v (first_with joined count u)) [
  | inl low ↦ absurd (both_ways _ (none_before_first joined count u v low) is)
  | inr high ↦ high
]

-- ---- tests that agree

-- Tests that agree give the same least number.
first_with-same : (joined other : ℕ → ℕ → Bool) (count u : ℕ)
    → ((v : ℕ) → v < count → joined u v ≡ other u v)
    → first_with joined count u ≡ first_with other count u
first_with-same joined other count u same =
    let most = first_with-le other count u in
    first_with_is joined count u (first_with other count u) most
    (λ k low. same k (omega arith) ∙ none_before_first other count u k low)
    (λ low. same (first_with other count u) low ∙ first_belongs other count u low)

-- Tests that agree count as many least numbers.
pub firsts_below-same : (joined other : ℕ → ℕ → Bool) (count bound : ℕ) → bound ≤ count
    → ((u v : ℕ) → u < count → v < count → joined u v ≡ other u v)
    → firsts_below joined count bound ≡ firsts_below other count bound
firsts_below-same joined other count bound few same =
    count_by-range_same (is_first joined count) (is_first other count) bound
    (λ u low. ap (λ first. eqb first u)
    (first_with-same joined other count u (λ v. same u v (omega arith))))

-- Tests that agree give the same classes.
pub class_of-same : (joined other : ℕ → ℕ → Bool) (count u : ℕ) → u < count
    → ((a b : ℕ) → a < count → b < count → joined a b ≡ other a b)
    → class_of joined count u ≡ class_of other count u
class_of-same joined other count u within same =
    let first = first_with-same joined other count u (λ v. same u v within) in
    let few = first_with-le other count u in
    ap (firsts_below joined count) first
    ∙ firsts_below-same joined other count (first_with other count u) few same

-- ---- classes of an equivalence

-- The test is an equivalence on the numbers below a count.
pub record AreClasses (joined : ℕ → ℕ → Bool) (count : ℕ) : Type 0 where
  pub itself : (u : ℕ) → u < count → joined u u ≡ true
  pub back : (u v : ℕ) → u < count → joined u v ≡ true → joined v u ≡ true
  pub onward : (u w v : ℕ) → joined u w ≡ true → joined w v ≡ true → joined u v ≡ true

-- The least number of a class is at most each of it.
pub first_with-low : (joined : ℕ → ℕ → Bool) (count u : ℕ) → AreClasses joined count
    → u < count → first_with joined count u ≤ u
first_with-low joined count u classes within =
    first_with-least joined count u u (classes.itself u within)

-- A number belongs to the least of its class.
pub belongs_to_first : (joined : ℕ → ℕ → Bool) (count u : ℕ) → AreClasses joined count
    → u < count → joined u (first_with joined count u) ≡ true
belongs_to_first joined count u classes within =
    let low = first_with-low joined count u classes within in
    first_belongs joined count u (omega arith)

-- Numbers that belong together have the same least number.
pub first_with-joined : (joined : ℕ → ℕ → Bool) (count u v : ℕ) → AreClasses joined count
    → u < count → v < count → joined u v ≡ true
    → first_with joined count u ≡ first_with joined count v
first_with-joined joined count u v classes first second is =
    let mine = first_with-least joined count u (first_with joined count v)
    (classes.onward u v _ is (belongs_to_first joined count v classes second)) in
    let other = first_with-least joined count v (first_with joined count u)
    (classes.onward v u _ (classes.back u v first is)
    (belongs_to_first joined count u classes first)) in
    omega arith

-- Numbers with the same least number belong together.
pub joined_from_first : (joined : ℕ → ℕ → Bool) (count u v : ℕ) → AreClasses joined count
    → u < count → v < count → first_with joined count u ≡ first_with joined count v
    → joined u v ≡ true
joined_from_first joined count u v classes first second same =
    classes.onward u (first_with joined count u) v
    (belongs_to_first joined count u classes first)
    (subst (λ (p : ℕ). joined p v ≡ true) (sym same)
    (classes.back v (first_with joined count v) second
    (belongs_to_first joined count v classes second)))

-- The least of a class is the least of its own class.
pub first_is_first : (joined : ℕ → ℕ → Bool) (count u : ℕ) → AreClasses joined count
    → u < count → is_first joined count (first_with joined count u) ≡ true
first_is_first joined count u classes within =
    let first = first_with joined count u in
    let low = first_with-low joined count u classes within in
    eq-eqb (first_with joined count first) first
    (first_with-joined joined count first u classes (omega arith) within
    (classes.back u first within (belongs_to_first joined count u classes within)))

-- ---- numbers of classes

-- Numbers that belong together have one class.
pub class_of-joined : (joined : ℕ → ℕ → Bool) (count u v : ℕ) → AreClasses joined count
    → u < count → v < count → joined u v ≡ true
    → class_of joined count u ≡ class_of joined count v
class_of-joined joined count u v classes first second is =
    ap (firsts_below joined count)
    (first_with-joined joined count u v classes first second is)

-- A class with a lesser least number has a lesser number.
pub class_of-lt : (joined : ℕ → ℕ → Bool) (count u v : ℕ) → AreClasses joined count
    → u < count → first_with joined count u < first_with joined count v
    → class_of joined count u < class_of joined count v
class_of-lt joined count u v classes within low =
    count_by-range_lt (is_first joined count) (first_with joined count u)
    (first_with joined count v) low (first_is_first joined count u classes within)

-- Numbers of one class belong together.
pub joined_from_class : (joined : ℕ → ℕ → Bool) (count u v : ℕ) → AreClasses joined count
    → u < count → v < count → class_of joined count u ≡ class_of joined count v
    → joined u v ≡ true
joined_from_class joined count u v classes first second same =
    elim (cases_order (first_with joined count u) (first_with joined count v)) [
      | inl equal ↦ joined_from_first joined count u v classes first second equal
      | inr apart ↦ elim apart [
        | inl low ↦
            let less = class_of-lt joined count u v classes first low in absurd (omega arith)
        | inr high ↦
            let less = class_of-lt joined count v u classes second high in absurd (omega arith)
      ]
    ]

-- The number of a class is below their number.
pub class_of-below : (joined : ℕ → ℕ → Bool) (count u : ℕ) → AreClasses joined count
    → u < count → class_of joined count u < firsts_below joined count count
class_of-below joined count u classes within =
    let low = first_with-low joined count u classes within in
    count_by-range_lt (is_first joined count) (first_with joined count u) count (omega arith)
    (first_is_first joined count u classes within)

-- The least number of a class with this number.
pub record ClassFirst (joined : ℕ → ℕ → Bool) (count class : ℕ) : Type 0 where
  pub first : ℕ
  pub below : first < count
  pub least : first_with joined count first ≡ first
  pub is : class_of joined count first ≡ class

-- Each number below that of classes is the number of one.
pub class_first : (joined : ℕ → ℕ → Bool) (count class : ℕ)
    → class < firsts_below joined count count → ClassFirst joined count class
class_first joined count class low =
    let nth = nth_passer (is_first joined count) count class low in
    let least = eqb-true (first_with joined count nth.number) nth.number nth.passes in
    record {
      first = nth.number;
      below = nth.below;
      least = least;
      is = ap (firsts_below joined count) least ∙ nth.before;
    }
