use Rattle.aeth_refinement.proofs.Refilling.{refills}
use Rattle.aeth_refinement.proofs.laws.queues_are_refilled.Goals as goal

-- Each channel in use enqueues as it would alone.
pub returns : goal.returns
returns c = λ sessions ok channel words t lands takes enqueued moment wires count wired_for served
    low.
    refills sessions ok channel words t lands takes enqueued moment wires count wired_for served low
    (c.turns_are_taken_alone.ensures.refilling words t moment)
