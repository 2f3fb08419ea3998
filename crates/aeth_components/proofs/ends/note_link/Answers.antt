use Rattle.aeth_components.proofs.ReceiverLemmas.{NotedTo-more}
use Rattle.aeth_components.proofs.ends.note_link.Goals as goal

-- One wire more has its receiver.
pub loop-place-preserved : goal.loop-place-preserved
loop-place-preserved c =
    let chip = c.args.chip.now in
    let found = c.link-delay.result in
    let at = c.link-delay.ensures.link in
    rw (at, c.wire-wire.ensures.wire) (NotedTo-more chip c.slots.ensures.chip c.args.link.0 found at c.args.receivers.now
    c.loop-place.receivers c.loop-place.place c.receiver_of.result (rw at at c.loop-place.invariant)
    c.loop-place-test.true c.requires.wires (rw at at c.receiver_of.ensures.receiver)
    c.receiver_of.ensures.below)
