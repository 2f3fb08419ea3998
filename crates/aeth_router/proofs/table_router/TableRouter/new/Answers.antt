use Rattle.std.proofs.Common.{◌≡◌, ◌∙◌, ℕ, List, ap, arith, length, subst, sym}
use Rattle.std.proofs.lemmas.Grind.{common_steps}
use Rattle.aeth_chip.specs.Nodes.{begins_at, ends_at, receives_on}
use Rattle.aeth_chip.specs.declared.node.Node.TheVariants.{Router}
use Rattle.aeth_clocked.specs.Wires.{AreLinks}
use Rattle.aeth_router.specs.Router.{is_among, numbers_of}
use Rattle.aeth_router.proofs.LinkLemmas.{AreDistinctLinks-numbers_from, AreLinks-numbers_from}
use Rattle.aeth_router.proofs.Steps.{empty-places}
use Rattle.aeth_router.proofs.TableLemmas.{few-numbers, few-passing, length-entries}
use Rattle.aeth_router.proofs.table_router.TableRouter.new.Goals as goal

-- The links on which a router receives are links of the chip.
pub last_wires-requires : goal.last_wires-requires
last_wires-requires c =
    let links = c.args.chip.now.links in
    let same : numbers_of c.deref.result.now ≡ receives_on (Router c.args.router) links =
    ap numbers_of c.deref.ensures.value ∙ c.in_ok-links.ensures in
    subst (λ (numbers : List ℕ). AreLinks (is_among numbers) (length links)) (sym same)
    (AreLinks-numbers_from (ends_at (Router c.args.router)) links)

-- A router has no more ports than a chip has links.
pub no_entries-requires-clause-ports : goal.no_entries-requires-clause-ports
no_entries-requires-clause-ports c =
    let outgoing = c.in_ok-outgoing.outgoing in
    let size = outgoing.ok.0 in
    let few = few-passing (begins_at (Router c.args.router)) c.args.chip.now.links outgoing.items
    c.in_ok-outgoing.ensures in
    let most = c.slots-slots.ensures.chip.few_links in
    let count = c.len.ensures in
    omega arith

-- A place for a flit from each incoming link, each empty, outgoing links that are apart, and an
-- entry for each slot of each.
pub invariant_of-result : goal.invariant_of-result
invariant_of-result c =
    let links = c.in_ok-links.links in
    let incoming = c.in_ok-incoming.incoming in
    let outgoing = c.in_ok-outgoing.outgoing in
    let entries = c.in_ok-entries.entries in
    let held = c.in_ok-held.held in
    let chip = c.slots-slots.ensures.chip in
    let slots = c.slots-slots.ensures.slots in
    let count = c.len-2.ensures in
    let incoming_size = incoming.ok.0 in
    let ports = c.len.ensures in
    let outgoing_size = outgoing.ok.0 in
    let empty = empty-places incoming.items held.items c.len-2.result c.in_ok-held.ensures
    (omega arith) in
    record {
      sound = record {
        some_slots = (let some = chip.some_slots in omega arith);
        few = (let few = few-numbers (ends_at (Router c.args.router)) c.args.chip.now.links
            links.items c.in_ok-links.ensures in
            let most = chip.few_links in
            omega arith);
        places = empty.0;
        apart = rw c.in_ok-outgoing.ensures
            (AreDistinctLinks-numbers_from 0 (begins_at (Router c.args.router))
            c.args.chip.now.links);
        entries = length-entries outgoing.items entries.items c.len.result c.slots-slots.result
            c.in_ok-entries.ensures (omega arith);
      };
      idle = λ _. empty.1;
      single = λ _. grind (arith, common_steps);
    }
