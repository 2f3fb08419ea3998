use Rattle.std.proofs.Common.{◌≡◌, Some, get_or, slice_get}
use Rattle.std.proofs.lemmas.Option.{slice_get-get_or}
use Rattle.aeth_chip.specs.Index.{IsPort, as_router}
use Rattle.aeth_chip.specs.declared.node.{End.TheVariants.From, End.TheVariants.To, Link.Link}
use Rattle.aeth_chip.specs.declared.node.{Node.TheVariants.Router}
use Rattle.aeth_chip.proofs.{IndexLemmas.listed-more, IndexLemmas.port_next, Pushes.table-push}
use Rattle.aeth_chip.proofs.lists.enter_link.Goals as goal

abbrev no_link : Link
no_link = record { from = Router (record { 0 = 0 }); to = Router (record { 0 = 0 }); delay = 0 }

-- One more link.
pub returns : goal.returns
returns c =
    let links = c.args.links.now in
    let number = c.args.number in
    let its = c.args.its.now in
    let link = get_or links number no_link in
    let at : slice_get links number ≡ Some link =
    slice_get-get_or links number no_link c.requires.number in
    let before = c.requires.before in
    record {
      outgoing = listed-more as_router From links c.args.routers number link its.outgoing.items
          c.enter.new.lists.items before.outgoing at c.enter.ensures.size
          c.in_ok-port.ensures.lists;
      incoming = listed-more as_router To links c.args.routers number link its.incoming.items
          c.enter-2.new.lists.items before.incoming at c.enter-2.ensures.size
          c.in_ok-enter.ensures.lists;
      ports = rw c.in_ok-push.ensures.items
          (table-push (IsPort links) number its.ports.items c.in_ok-port.port before.ports
          (port_next links c.args.routers number c.in_ok-port.port link its.outgoing.items
          before.outgoing at (c.requires.nodes number link at).0 c.in_ok-port.ensures.place));
    }
