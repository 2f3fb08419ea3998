use Rattle.std.proofs.Common.{◌≡◌, None, ap, length, replicate, subst}
use Rattle.aeth_router.specs.TableRouter.{TableRouterState, table_emit}
use Rattle.aeth_router.proofs.{IdleLemmas.Drives-silent, TableLemmas.table_emit-idle}
use Rattle.aeth_router.proofs.table_router.driving.TableRouterClocked.drive.Goals as goal

-- The outgoing links are links.
pub route-requires-clause-links : goal.route-requires-clause-links
route-requires-clause-links c =
    rw (c.deref.ensures.value, ap (λ (router : TableRouterState). router.outgoing) c.self.view_is)
    c.requires

pub clear-requires : goal.clear-requires
clear-requires c =
    rw (c.deref-else-self.ensures.value, ap (λ (router : TableRouterState). router.outgoing) c.self.view_is)
    c.requires

-- Where no flit is held, the outgoing links are empty.
pub returns-else-self-clause-wires : goal.returns-else-self-clause-wires
returns-else-self-clause-wires c =
    let router = c.args.self.now in
    let idle = subst (λ (router : TableRouterState). router.held ≡ replicate (length router.held) None)
    c.self.view_is (c.self.invariant.idle c.if-self.false) in
    Drives-silent router.outgoing (table_emit router c.args.cycle) c.args.wires.now
    c.clear.new.wires (λ link. table_emit-idle router c.args.cycle link idle)
    (rw (c.deref-else-self.ensures.value, ap (λ (router : TableRouterState). router.outgoing) c.self.view_is)
    at c.clear.ensures)
