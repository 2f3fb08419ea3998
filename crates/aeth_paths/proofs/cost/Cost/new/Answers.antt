use Rattle.std.proofs.Common.{◌≢◌, ◌<◌, ◌+◌, ◌/◌, ◌%◌, ◌∙◌, ℕ, length, get_or, get_or-set_other}
use Rattle.std.proofs.Common.{get_or-set_same, below_more, length-set, set, subst, sym, arith}
use Rattle.aeth_paths.{specs.Costs.used_count, proofs.CostLemmas.are-costs}
use Rattle.aeth_paths.proofs.cost.Cost.new.Goals as goal

-- One more answer is the function's.
pub loop-i-preserved : goal.loop-i-preserved
loop-i-preserved g c =
    let size = c.loop-i.invariant.size in
    let i = c.loop-i.i in
    let answers = c.loop-i.answers in
    let gives : ℕ → ℕ → Type 0 =
    λ k r. goal.F-post g c.args.function (1 + k / used_count) (k % used_count) r in
    let within : i < length answers = omega (arith, c.loop-i-test.true, size) in
    record {
      size = length-set answers i c.function.result ∙ size;
      told = below_more (λ k. gives k (get_or (set answers i c.function.result) k 0)) i
          (λ k below. let other : k ≢ i = omega arith in
          subst (gives k) (sym (get_or-set_other answers i k c.function.result 0 other))
          (c.loop-i.invariant.told k below))
          (subst (gives i) (sym (get_or-set_same answers i c.function.result 0 within))
          c.function.ensures);
    }

-- Each answer is from 1 to the greatest cost.
pub invariant_of-result : goal.invariant_of-result
invariant_of-result g c = are-costs (λ d u r. goal.F-post g c.args.function d u r)
    c.loop-i.answers c.requires.answers c.loop-i.invariant.size
    (λ k within. c.loop-i.invariant.told k (omega (arith, c.loop-i-test.false, within)))

-- The same of the new value.
pub returns-clause-costs : goal.returns-clause-costs
returns-clause-costs g c = are-costs (λ d u r. goal.F-post g c.args.function d u r)
    c.loop-i.answers c.requires.answers c.loop-i.invariant.size
    (λ k within. c.loop-i.invariant.told k (omega (arith, c.loop-i-test.false, within)))
