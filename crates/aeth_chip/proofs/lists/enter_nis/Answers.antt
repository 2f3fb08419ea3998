use Rattle.std.proofs.Common.{◌≡◌, Some, get_or, length, slice_get}
use Rattle.std.proofs.lemmas.Option.{slice_get-get_or}
use Rattle.aeth_chip.specs.declared.node.{End.TheVariants.From, End.TheVariants.To, Link.Link}
use Rattle.aeth_chip.specs.declared.node.{Node.TheVariants.Router}
use Rattle.aeth_chip.proofs.IndexLemmas.{ni_links-more}
use Rattle.aeth_chip.proofs.lists.enter_nis.Goals as goal

abbrev no_link : Link
no_link = record { from = Router (record { 0 = 0 }); to = Router (record { 0 = 0 }); delay = 0 }

-- One more link.
pub loop-number-preserved : goal.loop-number-preserved
loop-number-preserved c =
    let links = c.args.links.now in
    let number = c.loop-number.number in
    let link = get_or links number no_link in
    let at : slice_get links number ≡ Some link =
    slice_get-get_or links number no_link c.loop-number-test.true in
    record {
      outgoing = ni_links-more From links (length c.args.outgoing.now) number link
          c.loop-number.outgoing c.enter_ni.new.entries c.loop-number.invariant.outgoing at
          c.enter_ni.ensures.size c.enter_ni.ensures.entries;
      incoming = ni_links-more To links (length c.args.incoming.now) number link
          c.loop-number.incoming c.enter_ni-in-loop-number.new.entries
          c.loop-number.invariant.incoming at c.enter_ni-in-loop-number.ensures.size
          c.enter_ni-in-loop-number.ensures.entries;
    }
