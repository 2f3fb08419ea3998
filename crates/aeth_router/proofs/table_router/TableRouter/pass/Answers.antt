use Rattle.std.proofs.Common.{◌≡◌, ◌≤◌, ◌<◌, ◌%◌, ◌∙◌, ℕ, ap, arith, length, subst, sym, true}
use Rattle.aeth_router.specs.{Ports.hopped, Single.IsTableNoted, Single.is_sent_by}
use Rattle.aeth_router.specs.{TableRouter.TableRouterState}
use Rattle.aeth_router.proofs.SingleLemmas.{Adds-from_Reaches, Reaches-sent, port_sends}
use Rattle.aeth_router.proofs.SingleLemmas.{port_sends-other}
use Rattle.aeth_router.proofs.TableLemmas.{is_port-from, port-link, port-link-below}
use Rattle.aeth_router.proofs.table_router.TableRouter.pass.Goals as goal

-- The port's link is a link.
pub add-requires : goal.add-requires
add-requires c =
    let router = c.args.self.now in
    let port = c.hop-port.result.0 in
    let is_port = is_port-from (length router.outgoing) port c.is_sent_by.result
    c.is_sent_by.ensures.past c.if-is_sent_by.true in
    port-link-below router c.self.inside.outgoing.items port (length c.args.onward.now)
    c.index.result.now (ap (λ (router : TableRouterState). router.outgoing) c.self.view_is) is_port
    c.index.ensures c.requires

-- Its port alone sends on what the wire has.
pub returns-then-is_sent_by : goal.returns-then-is_sent_by
returns-then-is_sent_by c =
    let router = c.args.self.now in
    let slot = c.args.cycle % router.slots in
    let wire = c.args.wire.0 in
    let port = c.hop-port.result.0 in
    let link = c.index.result.now in
    let links = c.self.inside.outgoing.items in
    let sent = hopped c.args.flit in
    let old = c.args.onward.now in
    let new = c.add.new.self in
    let noted = subst (λ (router : TableRouterState).
    IsTableNoted c.self.inside.is_holding c.self.inside.is_single router) c.self.view_is
    c.self.invariant in
    let same = ap (λ (router : TableRouterState). router.outgoing) c.self.view_is in
    let is_port = is_port-from (length router.outgoing) port c.is_sent_by.result
    c.is_sent_by.ensures.past c.if-is_sent_by.true in
    let is_slot : slot < router.slots =
    (let some : 1 ≤ router.slots = noted.sound.some_slots in omega arith) in
    let does : is_sent_by router slot wire port ≡ true =
    subst (λ (slots : ℕ). is_sent_by router (c.args.cycle % slots) wire port ≡ true)
    (ap (λ (router : TableRouterState). router.slots) c.self.view_is)
    (sym (c.is_sent_by.ensures.is is_port) ∙ c.if-is_sent_by.true) in
    Adds-from_Reaches router.outgoing (port_sends router slot wire sent) noted.sound.apart port link.0
    old new (port-link router links port link same is_port c.index.ensures)
    (port_sends-other router slot wire port sent (noted.single c.if-self.true) is_slot is_port does)
    (Reaches-sent router slot wire port link.0 sent old new does
    (port-link-below router links port (length old) link same is_port c.index.ensures c.requires)
    (rw (← c.hop-port.ensures.word) c.add.ensures))
