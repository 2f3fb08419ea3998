use Rattle.aeth_group.proofs.MarkLemmas.{extends-then}
use Rattle.aeth_group.proofs.closing.close.Goals as goal

-- One more pass.
pub passes-preserved : goal.passes-preserved
passes-preserved c =
    extends-then c.args.marks.now c.passes.marks c.pass.new.marks c.passes.invariant
    c.pass.ensures.spreads.extends
