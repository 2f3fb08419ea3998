use Rattle.aeth_group.proofs.PassLemmas.{passing-added, passing-end, passing-none, passing-row}
use Rattle.aeth_group.proofs.PassLemmas.{passing-start}
use Rattle.aeth_group.proofs.closing.pass.Goals.{then-lead_over, else-lead_over}
use Rattle.aeth_group.proofs.closing.pass.Goals as goal

-- No pair yet.
pub loop-u-init : goal.loop-u-init
loop-u-init c = passing-start c.args.marks.now

-- One more pair.
pub loop-w-preserved : goal.loop-w-preserved
loop-w-preserved c = elim c.if-lead_over.branch [
  | then-lead_over w ↦ rw w.added-is
      (passing-added c.args.marks.now c.loop-w.marks c.lead_over.new.marks c.loop-w.added c.loop-u.u
      c.loop-w.w _ c.loop-w.invariant w.if-lead_over.ensures.spreads)
  | else-lead_over w ↦ rw w.added-is
      (passing-none c.args.marks.now c.loop-w.marks c.lead_over.new.marks c.loop-w.added c.loop-u.u
      c.loop-w.w c.loop-w.invariant w.if-lead_over.ensures.spreads w.if-lead_over.ensures.led)
]

-- One more row.
pub loop-u-preserved : goal.loop-u-preserved
loop-u-preserved c =
    passing-row c.args.marks.now c.loop-w.marks c.loop-w.added c.loop-u.u c.loop-w.w
    c.loop-w.invariant c.loop-w-test.false

-- All pairs.
pub returns-clause-closed : goal.returns-clause-closed
returns-clause-closed c =
    passing-end c.args.marks.now c.loop-u.marks c.loop-u.added c.loop-u.u c.loop-u.invariant
    c.loop-u-test.false
