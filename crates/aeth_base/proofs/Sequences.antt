-- Laws of counts as functions of the cycle: those that grow, and those that rest.
use Rattle.std.proofs.Common.{ℕ, ◌+◌, ◌<◌, ◌≤◌, ◌≡◌, ◌∙◌, zero, suc, ap, inl, inr, arith}
use Rattle.std.proofs.lemmas.Bool.{cases_lt, cases_eq}

-- In some cycle up to t the count grows to a number and past those below.
pub record GrowsTo (count : ℕ → ℕ) (i t : ℕ) : Type 0 where
  pub cycle : ℕ
  pub before : count cycle < i
  pub after : i ≤ count (cycle + 1)
  pub by : cycle ≤ t

-- A count that begins below a number, and isn't below it in the end, grows to it in some cycle.
pub first-reached : (count : ℕ → ℕ) (i t : ℕ) → count 0 < i → i ≤ count (t + 1) → GrowsTo count i t
first-reached count i zero low reached =
    record { cycle = 0; before = low; after = reached; by = omega arith }
first-reached count i (suc t) low reached = elim (cases_lt (count (t + 1)) i) [
  | inl below ↦
      let next : suc t ≡ t + 1 = omega arith in
      let same = ap count next in
      record { cycle = suc t; before = omega (arith, same); after = reached; by = omega arith }
  | inr there ↦
      let sooner = first-reached count i t low there in
      record {
        cycle = sooner.cycle;
        before = sooner.before;
        after = sooner.after;
        by = omega (arith, sooner.by);
      }
]

-- A count that never falls from one cycle to the next never falls.
pub never-falls : (count : ℕ → ℕ) → ((t : ℕ) → count t ≤ count (suc t)) → (s t : ℕ) → s ≤ t
    → count s ≤ count t
never-falls count step s zero up =
    let first : s ≡ 0 = omega arith in
    let same = ap count first in
    omega (arith, same)
never-falls count step s (suc t) up = elim (cases_eq s (suc t)) [
  | inl last ↦ let same = ap count last in omega (arith, same)
  | inr other ↦ omega (arith, step t, never-falls count step s t (omega arith))
]

-- A count that no cycle changes from some cycle on rests.
pub rests : (count : ℕ → ℕ) (from t : ℕ) → ((u : ℕ) → from ≤ u → count (suc u) ≡ count u) → from ≤ t
    → count t ≡ count from
rests count from zero still after = let first : zero ≡ from = omega arith in ap count first
rests count from (suc t) still after = elim (cases_eq (suc t) from) [
  | inl first ↦ ap count first
  | inr later ↦ still t (omega arith) ∙ rests count from t still (omega arith)
]
