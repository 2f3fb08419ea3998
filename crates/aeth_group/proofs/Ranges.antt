-- Laws of the numbers below a count: tests of some of them, and how many pass.
use Rattle.std.proofs.Common.{◌≡◌, ◌∙◌, ◌<◌, ◌≤◌, ◌+◌, ℕ, zero, suc, Bool, true, false, cond, refl}
use Rattle.std.proofs.Common.{sym, ap, inl, inr, add-one, arith, count_by}
use Rattle.std.proofs.lemmas.{Bool.cases_Bool, Bool.cases_lt, List.FromFn.get_or-range_with_len}
use Rattle.std.proofs.lemmas.{List.FromFn.length-range_with_len, List.Folds.Any-from_list_any}
use Rattle.std.proofs.lemmas.{List.Folds.list_any-from_Any, List.Sums.sum_by_push}
use Rattle.std.specs.List.{list_any, range_with_len}
use Rattle.aeth_base.proofs.Ranges.{range_with_len-more}

-- ---- some number passes a test

-- A number below a count passes a test.
pub record Passer (test : ℕ → Bool) (count : ℕ) : Type 0 where
  pub number : ℕ
  pub below : number < count
  pub passes : test number ≡ true

-- The test finds one that passes.
pub passer_from_any : (test : ℕ → Bool) (count : ℕ)
    → list_any test (range_with_len 0 count) ≡ true → Passer test count
passer_from_any test count found =
    let (k, x, within, at, passes) = Any-from_list_any test (range_with_len 0 count) found in
    let size = length-range_with_len 0 count in
    let below : k < count = omega arith in
    let there = get_or-range_with_len 0 count k x below in
    let is : x ≡ k = omega arith in
    record { number = k; below = below; passes = sym (ap test is) ∙ passes }

-- One that passes is found.
pub any_from_passer : (test : ℕ → Bool) (count number : ℕ) → number < count
    → test number ≡ true → list_any test (range_with_len 0 count) ≡ true
any_from_passer test count number below passes =
    let size = length-range_with_len 0 count in
    let there = get_or-range_with_len 0 count number number below in
    list_any-from_Any test (range_with_len 0 count)
    (number, number, omega arith, omega arith, passes)

-- ---- how many numbers pass a test

-- What a number adds to how many pass.
abbrev one_if : Bool → ℕ
one_if passes = cond passes 1 0

-- One more number.
pub count_by-range_more : (test : ℕ → Bool) (count : ℕ)
    → count_by test (range_with_len 0 (suc count))
    ≡ count_by test (range_with_len 0 count) + one_if (test count)
count_by-range_more test count =
    ap (count_by test) (range_with_len-more 0 count count (omega arith))
    ∙ sum_by_push (λ x. one_if (test x)) (range_with_len 0 count) count

-- Tests that agree on the first so many numbers let as many pass.
pub count_by-range_same : (test other : ℕ → Bool) (count : ℕ)
    → ((k : ℕ) → k < count → test k ≡ other k)
    → count_by test (range_with_len 0 count) ≡ count_by other (range_with_len 0 count)
count_by-range_same test other zero same = refl
count_by-range_same test other (suc count) same =
    let before = count_by-range_same test other count (λ k low. same k (omega arith)) in
    let last = ap one_if (same count (omega arith)) in
    let mine = count_by-range_more test count in
    let others = count_by-range_more other count in
    omega arith

-- Of fewer numbers no more pass.
pub count_by-range_le : (test : ℕ → Bool) (few many : ℕ) → few ≤ many
    → count_by test (range_with_len 0 few) ≤ count_by test (range_with_len 0 many)
count_by-range_le test few zero le = let none : few ≡ 0 = omega arith in
    let same = ap (λ n. count_by test (range_with_len 0 n)) none in omega arith
count_by-range_le test few (suc many) le = elim (cases_lt few (suc many)) [
  | inl low ↦
      let before = count_by-range_le test few many (omega arith) in
      let more = count_by-range_more test many in
      omega arith
  | inr high ↦
      let all : few ≡ suc many = omega arith in
      let same = ap (λ n. count_by test (range_with_len 0 n)) all in
      omega arith
]

-- A number that passes counts.
pub count_by-range_lt : (test : ℕ → Bool) (few many : ℕ) → few < many → test few ≡ true
    → count_by test (range_with_len 0 few) < count_by test (range_with_len 0 many)
count_by-range_lt test few many low passes =
    let more = count_by-range_more test few in
    let one = ap one_if passes in
    let most = count_by-range_le test (suc few) many (omega arith) in
    omega arith

-- A number below a count passes, and so many pass before it.
pub record NthPasser (test : ℕ → Bool) (count nth : ℕ) : Type 0 where
  pub number : ℕ
  pub below : number < count
  pub passes : test number ≡ true
  pub before : count_by test (range_with_len 0 number) ≡ nth

-- Each number below how many pass is that of one that passes.
pub nth_passer : (test : ℕ → Bool) (count nth : ℕ)
    → nth < count_by test (range_with_len 0 count) → NthPasser test count nth
nth_passer test zero nth low = absurd (omega arith)
nth_passer test (suc count) nth low = elim (cases_lt nth (count_by test (range_with_len 0 count))) [
  | inl early ↦
      let rest = nth_passer test count nth early in
      let below = rest.below in
      record {
        number = rest.number;
        below = omega arith;
        passes = rest.passes;
        before = rest.before;
      }
  | inr late ↦
      let more = count_by-range_more test count in
      elim (cases_Bool (test count)) [
        | inl passes ↦
            let one = ap one_if passes in
            record { number = count; below = omega arith; passes = passes; before = omega arith }
        | inr fails ↦
            let none = ap one_if fails in
            absurd (omega arith)
      ]
]

-- ---- counting one by one

-- So many of the first numbers pass, and at most all of them.
pub record Counted (test : ℕ → Bool) (bound counted : ℕ) : Type 0 where
  pub is : counted ≡ count_by test (range_with_len 0 bound)
  pub few : counted ≤ bound

-- One more number, which passes.
pub counted-passes : (test : ℕ → Bool) (bound counted new : ℕ) → Counted test bound counted
    → test bound ≡ true → new ≡ counted + 1 → Counted test (bound + 1) new
counted-passes test bound counted new before passes more =
    let here = count_by-range_more test bound in
    let one : one_if (test bound) ≡ 1 = ap one_if passes in
    let is = before.is in
    let few = before.few in
    record {
      is = rw add-one (omega arith);
      few = omega arith;
    }

-- One more number, which doesn't.
pub counted-fails : (test : ℕ → Bool) (bound counted new : ℕ) → Counted test bound counted
    → test bound ≡ false → new ≡ counted → Counted test (bound + 1) new
counted-fails test bound counted new before fails same =
    let here = count_by-range_more test bound in
    let none : one_if (test bound) ≡ 0 = ap one_if fails in
    let is = before.is in
    let few = before.few in
    record {
      is = rw add-one (omega arith);
      few = omega arith;
    }
