use Rattle.aeth_refinement.proofs.Taking.{took}
use Rattle.aeth_refinement.proofs.laws.words_are_taken.Goals as goal

-- Each receiver takes as it would alone.
pub returns : goal.returns
returns c = λ sessions ok channel words t lands takes enqueued moment wires count wired_for served
    old
    entries queues few.
    took sessions ok channel words t lands takes enqueued moment wires count wired_for served old
    entries
    queues few (c.turns_are_taken_alone.ensures.taking t moment)
