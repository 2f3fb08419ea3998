use Rattle.std.proofs.Common.{◌<◌, ◌∙◌, ℕ, ap, arith, get_or, length, subst, sym}
use Rattle.std.proofs.lemmas.Option.{slice_get-get_or}
use Rattle.aeth_router.specs.{Router.AreDistinctLinks, TableRouter.TableRouterState}
use Rattle.aeth_router.proofs.SingleLemmas.{Adds-from_HaveSent, HaveSent-more, Reaches-none}
use Rattle.aeth_router.proofs.SingleLemmas.{Reaches-sent, port_sends}
use Rattle.aeth_router.proofs.TableLemmas.{length-ports, port-link, port-link-below}
use Rattle.aeth_router.proofs.table_router.TableRouter.send_all.Goals.{else-is_sent_by}
use Rattle.aeth_router.proofs.table_router.TableRouter.send_all.Goals.{then-is_sent_by}
use Rattle.aeth_router.proofs.table_router.TableRouter.send_all.Goals as goal

-- Each outgoing link is a link.
pub add-requires : goal.add-requires
add-requires c =
    let router = c.args.self.now in
    let links = c.self.inside.outgoing.items in
    let same = ap (λ (router : TableRouterState). router.outgoing) c.self.view_is in
    let ports = length-ports router links same in
    rw c.loop-port.invariant.size
    (port-link-below router links c.loop-port.port (length c.args.onward.now) c.index.result.now same
    (omega arith) c.index.ensures c.requires.links)

-- One port more has sent, if it does.
pub loop-port-preserved : goal.loop-port-preserved
loop-port-preserved c =
    let router = c.args.self.now in
    let slot = c.args.slot in
    let wire = c.args.wire.0 in
    let sent = c.args.sent in
    let port = c.loop-port.port in
    let old = c.args.onward.now in
    let now = c.loop-port.onward in
    let before = c.loop-port.invariant in
    let links = c.self.inside.outgoing.items in
    let same = ap (λ (router : TableRouterState). router.outgoing) c.self.view_is in
    let ports = length-ports router links same in
    let is_port : port < length router.outgoing = omega arith in
    let is = sym (c.is_sent_by.ensures.is is_port) in
    let apart = subst (λ (router : TableRouterState). AreDistinctLinks router.outgoing)
    c.self.view_is c.self.invariant.sound.apart in
    let more = λ (link : ℕ). HaveSent-more router.outgoing (port_sends router slot wire sent) apart port link
    old now in
    elim c.if-is_sent_by.branch [
      | then-is_sent_by w ↦
          let link = w.index.result.now in
          let within = port-link-below router links port (length old) link same is_port
          w.index.ensures c.requires.links in
          let size = before.size in
          more link.0 c.if-is_sent_by.onward
          (port-link router links port link same is_port w.index.ensures) before
          (Reaches-sent router slot wire port link.0 sent now c.if-is_sent_by.onward
          (is ∙ w.if-is_sent_by.true) (omega arith) (w.onward-is ∙ w.add.ensures))
      | else-is_sent_by w ↦
          let link = get_or router.outgoing port 0 in
          rw w.onward-is (more link now (slice_get-get_or router.outgoing port 0 is_port) before
          (Reaches-none router slot wire port link sent now (is ∙ w.if-is_sent_by.false)))
    ]

-- All have.
pub returns : goal.returns
returns c =
    let router = c.args.self.now in
    let apart = subst (λ (router : TableRouterState). AreDistinctLinks router.outgoing)
    c.self.view_is c.self.invariant.sound.apart in
    let ports = length-ports router c.self.inside.outgoing.items
    (ap (λ (router : TableRouterState). router.outgoing) c.self.view_is) in
    Adds-from_HaveSent router.outgoing (port_sends router c.args.slot c.args.wire.0 c.args.sent) apart
    c.loop-port.port c.args.onward.now c.loop-port.onward (omega arith) c.loop-port.invariant
