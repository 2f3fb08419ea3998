use Rattle.std.proofs.Common.{◌≡◌, None, ap, length, replicate, subst}
use Rattle.aeth_router.{specs.Router.RouterState, proofs.IdleLemmas.Drives-cleared}
use Rattle.aeth_router.proofs.router.RouterClocked.drive.Goals as goal

-- The outgoing links are links.
pub emit-requires-clause-links : goal.emit-requires-clause-links
emit-requires-clause-links c =
    rw (c.deref.ensures.value, ap (λ (router : RouterState). router.outgoing) c.self.view_is)
    c.requires

pub clear-requires : goal.clear-requires
clear-requires c =
    rw (c.deref-else-self.ensures.value, ap (λ (router : RouterState). router.outgoing) c.self.view_is)
    c.requires

-- Where no flit is held, the outgoing links are empty.
pub returns-else-self-clause-wires : goal.returns-else-self-clause-wires
returns-else-self-clause-wires c =
    let router = c.args.self.now in
    let idle = subst (λ (router : RouterState). router.held ≡ replicate (length router.held) None)
    c.self.view_is (c.self.invariant.idle c.if-self.false) in
    Drives-cleared router.outgoing router.held c.args.wires.now c.clear.new.wires idle
    (rw (c.deref-else-self.ensures.value, ap (λ (router : RouterState). router.outgoing) c.self.view_is)
    at c.clear.ensures)
