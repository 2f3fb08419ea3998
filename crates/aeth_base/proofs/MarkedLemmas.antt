-- Laws of numbers from one on that pass a test, and of those that are marked.
use Rattle.std.proofs.Common.{ℕ, zero, suc, ◌≡◌, ◌<◌, ◌≤◌, ◌+◌, ◌-◌, ◌/◌, ◌%◌, ◌∙◌, refl, sym, ap}
use Rattle.std.proofs.Common.{arith, inl, inr, Bool, true, false, List, [], ◌∷◌, cond, drop, filter}
use Rattle.std.proofs.Common.{subst, slice_index, eq-eqb, eqb-true}
use Rattle.std.proofs.lemmas.{Bool.cases_Bool, Bool.cases_eq, Nat.Bits.bit_at-lt}
use Rattle.std.specs.List.{range_with_len}
use Rattle.aeth_base.specs.Marks.{bit_of, is_marked}
use Rattle.aeth_base.proofs.Filters.{filter-no, filter-yes}

-- Of numbers from one on, two tests that agree there keep the same.
filter-same : (test other : ℕ → Bool) (from count : ℕ)
    → ((n : ℕ) → from ≤ n → test n ≡ other n)
    → filter test (range_with_len from count) ≡ filter other (range_with_len from count)
filter-same test other from zero same = refl
filter-same test other from (suc count) same =
    let here = same from (omega arith) in
    let rest = filter-same test other (from + 1) count (λ n after. same n (omega arith)) in
    rw (here, rest) refl

-- Numbers that fail are passed over.
pub filter-skip : (test other : ℕ → Bool) (from gap count : ℕ)
    → ((n : ℕ) → from ≤ n → n < from + gap → test n ≡ false)
    → ((n : ℕ) → from + gap ≤ n → test n ≡ other n)
    → filter test (range_with_len from (gap + count))
    ≡ filter other (range_with_len (from + gap) count)
filter-skip test other from zero count none same =
    let here : from + 0 ≡ from = omega arith in
    let all : 0 + count ≡ count = omega arith in
    rw (here, all) (filter-same test other from count (λ n after. same n (omega arith)))
filter-skip test other from (suc gap) count none same =
    let next : from + 1 + gap ≡ from + suc gap = omega arith in
    let more : suc gap + count ≡ suc (gap + count) = omega arith in
    ap (λ n. filter test (range_with_len from n)) more
    ∙ filter-no test from (range_with_len (from + 1) (gap + count))
    (none from (omega arith) (omega arith))
    ∙ filter-skip test other (from + 1) gap count
    (λ n after below. none n (omega arith) (omega arith))
    (λ n after. same n (omega arith))
    ∙ ap (λ n. filter other (range_with_len n count)) next

-- The first number that passes stands first, and the others pass another test.
pub filter-first : (test other : ℕ → Bool) (from count first : ℕ) → from ≤ first
    → first < from + count → ((n : ℕ) → from ≤ n → n < first → test n ≡ false)
    → test first ≡ true → ((n : ℕ) → from ≤ n → n ≤ first → other n ≡ false)
    → ((n : ℕ) → first < n → test n ≡ other n)
    → filter test (range_with_len from count)
    ≡ first ∷ filter other (range_with_len from count)
filter-first test other from zero first after within none is gone same = absurd (omega arith)
filter-first test other from (suc count) first after within none is gone same =
    let rest = range_with_len (from + 1) count in
    let left = filter-no other from rest (gone from (omega arith) after) in
    elim (cases_eq from first) [
      | inl here ↦
          filter-yes test from rest (ap test here ∙ is)
          ∙ ap (λ n. n ∷ filter test rest) here
          ∙ ap (λ (list : List ℕ). first ∷ list)
          (filter-same test other (from + 1) count (λ n after. same n (omega arith)) ∙ sym left)
      | inr apart ↦
          filter-no test from rest (none from (omega arith) (omega arith))
          ∙ filter-first test other (from + 1) count first (omega arith) (omega arith)
          (λ n after below. none n (omega arith) below) is
          (λ n after below. gone n (omega arith) below) same
          ∙ ap (λ (list : List ℕ). first ∷ list) (sym left)
    ]

-- The next number that passes, of those from one on, and the ones behind it.
pub record NextPassing (test : ℕ → Bool) (from end next : ℕ) (rest : List ℕ) : Type 0 where
  pub after : from ≤ next
  pub below : next < end
  pub none : (n : ℕ) → from ≤ n → n < next → test n ≡ false
  pub is : test next ≡ true
  pub behind : rest ≡ filter test (range_with_len (next + 1) (end - (next + 1)))

passing-next : (test : ℕ → Bool) (from count next : ℕ) (rest : List ℕ)
    → filter test (range_with_len from count) ≡ next ∷ rest
    → NextPassing test from (from + count) next rest
passing-next test from zero next rest list = absurd (cc list)
passing-next test from (suc count) next rest list = elim (cases_Bool (test from)) [
  | inl passes ↦
      let own = filter-yes test from (range_with_len (from + 1) count) passes in
      let here : from ≡ next = ap (λ (l : List ℕ). slice_index l 0) (sym own ∙ list) in
      let left : filter test (range_with_len (from + 1) count) ≡ rest =
      ap (λ (l : List ℕ). drop 1 l) (sym own ∙ list) in
      let size : from + suc count - (next + 1) ≡ count = omega (arith, here) in
      record {
        after = omega (arith, here);
        below = omega (arith, here);
        none = λ n after below. absurd (omega (arith, here, after, below));
        is = ap test (sym here) ∙ passes;
        behind = sym left ∙ ap (λ n. filter test (range_with_len (n + 1) count)) here
            ∙ ap (λ n. filter test (range_with_len (next + 1) n)) (sym size);
      }
  | inr fails ↦
      let later = passing-next test (from + 1) count next rest
      (sym (filter-no test from (range_with_len (from + 1) count) fails) ∙ list) in
      let end : from + 1 + count ≡ from + suc count = omega arith in
      let after = later.after in
      let below = later.below in
      record {
        after = omega (arith, after);
        below = omega (arith, below);
        none = λ n since before. elim (cases_eq n from) [
          | inl same ↦ ap test same ∙ fails
          | inr apart ↦ later.none n (omega arith) before
        ];
        is = later.is;
        behind = later.behind
            ∙ ap (λ n. filter test (range_with_len (next + 1) (n - (next + 1)))) end;
      }
]

pub next-passing : (test : ℕ → Bool) (from end next : ℕ) (rest : List ℕ)
    → filter test (range_with_len from (end - from)) ≡ next ∷ rest
    → NextPassing test from end next rest
next-passing test from end next rest list =
    let found = passing-next test from (end - from) next rest list in
    let below = found.below in
    let after = found.after in
    let same : from + (end - from) ≡ end = omega (arith, below, after) in
    subst (λ n. NextPassing test from n next rest) same found

-- Where none passes, each fails.
none-of : (test : ℕ → Bool) (from count : ℕ) → filter test (range_with_len from count) ≡ []
    → (n : ℕ) → from ≤ n → n < from + count → test n ≡ false
none-of test from zero list n after below = absurd (omega arith)
none-of test from (suc count) list n after below = elim (cases_Bool (test from)) [
  | inl passes ↦
      absurd (cc (sym (filter-yes test from (range_with_len (from + 1) count) passes) ∙ list))
  | inr fails ↦ elim (cases_eq n from) [
    | inl same ↦ ap test same ∙ fails
    | inr apart ↦
        none-of test (from + 1) count
        (sym (filter-no test from (range_with_len (from + 1) count) fails) ∙ list) n (omega arith)
        (omega arith)
  ]
]

pub none-passing : (test : ℕ → Bool) (from end : ℕ)
    → filter test (range_with_len from (end - from)) ≡ [] → (n : ℕ) → from ≤ n → n < end
    → test n ≡ false
none-passing test from end list n after below =
    none-of test from (end - from) list n after (omega arith)

-- Where each number fails, none is kept.
filter-gone : (test : ℕ → Bool) (from count : ℕ) → ((n : ℕ) → from ≤ n → test n ≡ false)
    → filter test (range_with_len from count) ≡ []
filter-gone test from zero none = refl
filter-gone test from (suc count) none =
    filter-no test from (range_with_len (from + 1) count) (none from (omega arith))
    ∙ filter-gone test (from + 1) count (λ n after. none n (omega arith))

-- Numbers that fail at the end are left out.
pub filter-short : (test : ℕ → Bool) (from count more : ℕ)
    → ((n : ℕ) → from + count ≤ n → test n ≡ false)
    → filter test (range_with_len from (count + more)) ≡ filter test (range_with_len from count)
filter-short test from zero more none =
    let all : 0 + more ≡ more = omega arith in
    rw all (filter-gone test from more (λ n after. none n (omega arith)))
filter-short test from (suc count) more none =
    let next : suc count + more ≡ suc (count + more) = omega arith in
    let rest = filter-short test (from + 1) count more (λ n after. none n (omega arith)) in
    ap (λ n. filter test (range_with_len from n)) next
    ∙ ap (λ (list : List ℕ). cond (test from) (from ∷ list) list) rest

-- Two tests that agree keep the same.
pub filter-alike : (test other : ℕ → Bool) (list : List ℕ) → ((n : ℕ) → test n ≡ other n)
    → filter test list ≡ filter other list
filter-alike test other [] same = refl
filter-alike test other (x ∷ list) same =
    rw (same x, filter-alike test other list same) refl

-- What the bit of a number tells.
pub is_marked-one : (masks : List ℕ) (number : ℕ) → is_marked masks number ≡ true
    → bit_of masks number ≡ 1
is_marked-one masks number is = eqb-true (bit_of masks number) 1 is

pub is_marked-zero : (masks : List ℕ) (number : ℕ) → is_marked masks number ≡ false
    → bit_of masks number ≡ 0
is_marked-zero masks number isnt =
    let bit = bit_at-lt (slice_index masks (number / 64)) (number % 64) in
    elim (cases_eq (bit_of masks number) 1) [
      | inl one ↦ absurd (cc (sym (eq-eqb (bit_of masks number) 1 one) ∙ isnt))
      | inr other ↦ omega (arith, bit, other)
    ]
