use Rattle.std.proofs.Common.{◌≡◌, ◌∙◌, ℕ, List, Some, ap, subst, sym}
use Rattle.aeth_router.specs.{Forwarding.sent_by, Ports.toward, Router.AreDistinctLinks}
use Rattle.aeth_router.specs.{Router.RouterState, Router.numbers_of, TableRouter.sent_on}
use Rattle.aeth_router.specs.{declared.forwarding.Forwarding.TheVariants.ByPort}
use Rattle.aeth_router.proofs.ForwardingLemmas.{sent_by-ports}
use Rattle.aeth_router.proofs.router.Router.forwarding.Goals as goal

-- The links of the ports are those of the router, of which no two are one.
pub returns : goal.returns
returns c =
    let same : numbers_of c.deref.result.now ≡ c.args.self.now.outgoing =
    ap numbers_of c.deref.ensures.value
    ∙ ap (λ (router : RouterState). router.outgoing) c.self.view_is in
    let apart : AreDistinctLinks c.args.self.now.outgoing =
    subst (λ (router : RouterState). AreDistinctLinks router.outgoing) c.self.view_is
    c.self.invariant.sound.apart in
    λ out flit.
    subst (λ (numbers : List ℕ). sent_by (ByPort c.links_of_ports.result) out flit
    ≡ sent_on numbers (λ port. toward port (Some flit)) out) same
    (sent_by-ports c.deref.result.now c.links_of_ports.result
    (subst AreDistinctLinks (sym same) apart) c.links_of_ports.ensures out flit)
