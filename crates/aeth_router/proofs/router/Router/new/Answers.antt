use Rattle.std.proofs.Common.{arith}
use Rattle.aeth_chip.specs.{declared.node.Node.TheVariants.Router, Nodes.begins_at, Nodes.ends_at}
use Rattle.aeth_router.proofs.LinkLemmas.{AreDistinctLinks-numbers_from, AreLinks-numbers_from}
use Rattle.aeth_router.proofs.Steps.{empty-places}
use Rattle.aeth_router.proofs.router.Router.new.Goals as goal

-- The links on which a router receives are links of the chip.
pub last_wires-requires : goal.last_wires-requires
last_wires-requires c =
    rw c.incoming.ensures
    (AreLinks-numbers_from (ends_at (Router c.args.router)) c.args.chip.now.links)

-- A place for a flit from each incoming link, each empty, and outgoing links that are apart.
pub invariant_of-result : goal.invariant_of-result
invariant_of-result c =
    let incoming = c.in_ok-incoming.incoming in
    let held = c.in_ok-held.held in
    let count = c.len.ensures in
    let incoming_size = incoming.ok.0 in
    let empty = empty-places incoming.items held.items c.len.result c.in_ok-held.ensures (omega arith) in
    record {
      sound = record {
        places = empty.0;
        apart = rw c.in_ok-outgoing.ensures
            (AreDistinctLinks-numbers_from 0 (begins_at (Router c.args.router))
            c.args.chip.now.links);
      };
      idle = λ _. empty.1;
    }
