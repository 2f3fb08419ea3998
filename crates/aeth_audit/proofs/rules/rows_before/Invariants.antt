use Rattle.std.proofs.Common.{◌-◌}
use Rattle.aeth_audit.proofs.StartLemmas.{AreHalves}
use Rattle.aeth_audit.proofs.rules.rows_before.Given as goal

-- What is left lies between.
abbrev pub invariant-halves : goal.invariant-halves
invariant-halves l = AreHalves l.log.rows.now l.cycle l.link.0 l.low l.high

abbrev pub decreases-halves : goal.decreases-halves
decreases-halves l = l.high - l.low
