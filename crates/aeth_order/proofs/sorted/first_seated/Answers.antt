use Rattle.std.proofs.Common.{◌∙◌, sym, arith}
use Rattle.aeth_order.specs.Grid.{waits_seated}
use Rattle.aeth_order.proofs.SortedLemmas.{fail-more, found-here, found-none}
use Rattle.aeth_order.proofs.sorted.first_seated.Goals as goal

-- Behind all of them is none.
pub loop-left-init : goal.loop-left-init
loop-left-init c = record {
  within = omega arith;
  others = λ k d low within. absurd (omega (arith, low, within));
}

-- Here is one.
pub returns-then-waits_seated : goal.returns-then-waits_seated
returns-then-waits_seated c =
    found-here (waits_seated c.args.marks.now c.args.seats.now.places) c.args.order.now c.requires c.loop-left.left c.loop-left-test.true
    c.loop-left.invariant.within (sym c.waits_seated.ensures ∙ c.if-waits_seated.true) c.loop-left.invariant.others

-- Here is none.
pub loop-left-preserved : goal.loop-left-preserved
loop-left-preserved c = record {
  within = omega (arith, c.loop-left.invariant.within);
  others = fail-more (waits_seated c.args.marks.now c.args.seats.now.places) c.args.order.now c.loop-left.left c.loop-left-test.true
      c.loop-left.invariant.within (sym c.waits_seated.ensures ∙ c.if-waits_seated.false)
      c.loop-left.invariant.others;
}

-- All were seen.
pub returns : goal.returns
returns c =
    found-none (waits_seated c.args.marks.now c.args.seats.now.places) c.args.order.now (λ k d low within.
    c.loop-left.invariant.others k d (omega (arith, c.loop-left-test.false)) within)
