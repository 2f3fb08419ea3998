use Rattle.aeth_components.specs.Changes.{switched}
use Rattle.aeth_refinement.proofs.{Refilling.enqueued-rested, Running.prepared, Running.runs-on}
use Rattle.aeth_refinement.specs.{Served.enqueued_after, View.net_of}
use Rattle.aeth_refinement.proofs.laws.cycles_keep_running.Goals as goal

-- A prepared network does the cycle of the routed sessions.
pub returns : goal.returns
returns c = λ sessions ok channel events t enqueued old ready new runs prepares are cycle.
    let net = net_of enqueued (switched events ready.parts) ready.wires in
    let follows =
    c.cycles_are_cycles.ensures.follows sessions ok channel events t enqueued ready new
    (prepared sessions ok channel t enqueued old ready runs prepares) are cycle in
    runs-on sessions ok channel t enqueued old ready runs prepares events
    (enqueued_after sessions net t) new
    cycle follows (λ number not. enqueued-rested sessions net t number not)
