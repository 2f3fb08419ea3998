use Rattle.aeth_refinement.proofs.Switching.{switches}
use Rattle.aeth_refinement.proofs.laws.switches_are_made.Goals as goal

-- Each event changes its own queue or slot.
pub returns : goal.returns
returns c = λ sessions e events parts enqueued wires count wired_for are.
    switches sessions e events parts enqueued wires count wired_for are
    (c.events_change_their_own.ensures.queues events parts)
    (c.events_change_their_own.ensures.slots events parts)
