use Rattle.std.proofs.Common.{◌≡◌, ◌<◌, ◌∙◌, ℕ, List, Some, ap, length, slice_get, subst, sym}
use Rattle.aeth_router.{specs.Ports.toward, specs.Router.AreDistinctLinks, specs.Router.RouterState}
use Rattle.aeth_router.{specs.Router.numbers_of, proofs.AddsLemmas.Adds-sent_on}
use Rattle.aeth_router.{proofs.LinkLemmas.is_among-at, proofs.PortLemmas.toward-other}
use Rattle.aeth_router.{proofs.PortLemmas.toward-same, proofs.Steps.numbers_of-got}
use Rattle.aeth_router.proofs.router.Router.pass.Goals as goal

-- The link of the port is a link.
pub add-requires : goal.add-requires
add-requires c =
    let link = c.in-Some.link.now in
    let lookup = c.in-Some.ensures.lookup in
    let port = c.hop-port.result.0 in
    let same : numbers_of c.deref.result.now ≡ c.args.self.now.outgoing =
    ap numbers_of c.deref.ensures.value
    ∙ ap (λ (router : RouterState). router.outgoing) c.self.view_is in
    let at : slice_get c.args.self.now.outgoing port ≡ Some link.0 =
    ap (λ (links : List ℕ). slice_get links port) (sym same)
    ∙ numbers_of-got c.deref.result.now port link lookup.3.0 lookup.1 in
    c.requires link.0 (is_among-at c.args.self.now.outgoing port link.0 at)

-- What comes to it is what the port sends alone.
pub returns-in-Some : goal.returns-in-Some
returns-in-Some c =
    let link = c.in-Some.link.now in
    let lookup = c.in-Some.ensures.lookup in
    let port = c.hop-port.result.0 in
    let outgoing = c.args.self.now.outgoing in
    let same : numbers_of c.deref.result.now ≡ outgoing =
    ap numbers_of c.deref.ensures.value
    ∙ ap (λ (router : RouterState). router.outgoing) c.self.view_is in
    let at : slice_get outgoing port ≡ Some link.0 =
    ap (λ (links : List ℕ). slice_get links port) (sym same)
    ∙ numbers_of-got c.deref.result.now port link lookup.3.0 lookup.1 in
    let is_link : link.0 < length c.args.onward.now =
    c.requires link.0 (is_among-at outgoing port link.0 at) in
    let apart : AreDistinctLinks outgoing =
    subst (λ (router : RouterState). AreDistinctLinks router.outgoing) c.self.view_is
    c.self.invariant.sound.apart in
    let names = c.hop-port.ensures.port in
    rw (c.add.ensures, c.hop-port.ensures.word)
    (Adds-sent_on outgoing (λ port. toward port (Some c.args.flit)) port link.0 _
    c.args.onward.now apart at is_link (toward-same port c.args.flit (sym names))
    (λ other away. toward-other other c.args.flit (λ is. away (sym is ∙ sym names))))
