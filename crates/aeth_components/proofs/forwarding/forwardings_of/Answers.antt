use Rattle.std.proofs.{Common.length, Common.refl, lemmas.Option.slice_get_read}
use Rattle.aeth_components.proofs.ForwardingLemmas.{AreForwarded-more}
use Rattle.aeth_components.proofs.forwarding.forwardings_of.Goals as goal

-- It is noted of one component more.
pub loop-part-preserved : goal.loop-part-preserved
loop-part-preserved c =
    let parts = c.args.parts.now in
    let number = c.loop-part.part-index in
    let part = c.part-item in
    rw c.in_ok-push.ensures.items
    (AreForwarded-more parts c.loop-part.noted.items number part.result c.forwarding.result
    (slice_get_read parts (length parts) number part.result refl c.loop-part-test.true part.is)
    c.forwarding.ensures c.loop-part.invariant)
