use Rattle.aeth_group.proofs.ClosureLemmas.{closure_is_groups}
use Rattle.aeth_group.proofs.closing.chained.Goals as goal

-- The closure of the pairs.
pub returns : goal.returns
returns c = λ u v first second.
    closure_is_groups c.args.app.now.uses c.pairs_of-marks.result c.close.new.marks
    c.pairs_of-marks.ensures.only c.pairs_of-marks.ensures.each c.close.ensures u v first
