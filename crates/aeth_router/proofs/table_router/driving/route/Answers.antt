use Rattle.std.proofs.Common.{◌≡◌, ℕ, Option, ap, get_or, length, sym, ◌∙◌}
use Rattle.aeth_router.specs.Router.{numbers_of}
use Rattle.aeth_router.specs.TableRouter.{entry_at, sent_from, sent_on}
use Rattle.aeth_router.proofs.Steps.{Drives-more, numbers_of-at, numbers_of-below}
use Rattle.aeth_router.proofs.TableLemmas.{entry-within, sent_on-port}
use Rattle.aeth_router.proofs.table_router.driving.route.Goals as goal

-- The entry is one of the table.
pub entry_at-entry-requires : goal.entry_at-entry-requires
entry_at-entry-requires c =
    rw c.requires.entries
    (entry-within c.loop-port.port c.args.slot (length c.args.outgoing.now) c.args.slots
    c.loop-port-test.true c.requires.slot)

-- Each outgoing link is a link.
pub put-requires : goal.put-requires
put-requires c =
    rw c.loop-port.invariant.links
    (numbers_of-below c.args.outgoing.now c.loop-port.port (length c.args.wires.now) _
    c.requires.links c.loop-port-test.true)

-- One link more has what its port carries.
pub loop-port-preserved : goal.loop-port-preserved
loop-port-preserved c =
    let port = c.loop-port.port in
    let links = numbers_of c.args.outgoing.now in
    let held = c.args.held.now in
    let within = c.loop-port-test.true in
    let link = (get_or c.args.outgoing.now port (record { 0 = 0 })).0 in
    let at = numbers_of-at c.args.outgoing.now port (record { 0 = 0 }) within in
    let carried = λ (port : ℕ).
    sent_from held (entry_at c.args.entries.now c.args.slots port c.args.slot) in
    let flit : c.sent_from.result ≡ sent_on links carried link =
    c.sent_from.ensures
    ∙ ap (λ (entry : Option ℕ). sent_from held entry) c.entry_at-entry.ensures
    ∙ sym (sent_on-port links carried port link c.requires.apart at) in
    rw (c.put.ensures, flit)
    (Drives-more links (sent_on links carried) port link c.args.wires.now c.loop-port.wires at
    (numbers_of-below c.args.outgoing.now port (length c.args.wires.now) (record { 0 = 0 })
    c.requires.links within) c.loop-port.invariant)
