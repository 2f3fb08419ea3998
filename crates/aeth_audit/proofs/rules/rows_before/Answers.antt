use Rattle.std.proofs.Common.{◌+◌, ◌-◌, ◌/◌, arith}
use Rattle.aeth_audit.proofs.StartLemmas.{halves-before, halves-behind}
use Rattle.aeth_audit.proofs.rules.rows_before.Goals as goal

-- The row in the middle comes before the link.
pub halves-preserved-then-log-middle : goal.halves-preserved-then-log-middle
halves-preserved-then-log-middle c =
    let low = c.halves.low in
    let high = c.halves.high in
    let left = c.halves-test.true in
    halves-before c.args.log.now.rows.now c.requires.log.rise c.args.cycle c.args.link.0 low high
    (low + (high - low) / 2) _ c.halves.invariant (omega (arith, left)) (omega (arith, left))
    c.if-log-middle.true

-- Or it doesn't.
pub halves-preserved : goal.halves-preserved
halves-preserved c =
    let low = c.halves.low in
    let high = c.halves.high in
    let left = c.halves-test.true in
    halves-behind c.args.log.now.rows.now c.requires.log.rise c.args.cycle c.args.link.0 low high
    (low + (high - low) / 2) _ c.halves.invariant (omega (arith, left)) (omega (arith, left))
    c.if-log-middle.false
