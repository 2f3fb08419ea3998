use Rattle.aeth_document.proofs.WalkLemmas.{walked-append}
use Rattle.aeth_app.proofs.repeats.repeated_connections.Goals as goal

-- One more use case, with a set of its own.
pub loop-one-preserved : goal.loop-one-preserved
loop-one-preserved c =
    rw (c.in_ok-walk.ensures, c.texts_at.ensures, walked-append)
    (rw c.in-Some.ensures.steps at c.loop-one.invariant)
