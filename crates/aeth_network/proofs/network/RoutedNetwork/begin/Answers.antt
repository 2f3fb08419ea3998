use Rattle.std.proofs.Common.{◌<◌, ◌∙◌, ap, arith, subst, sym, vec_capacity}
use Rattle.aeth_running.specs.{Network.NetworkState, Network.stepped, Still.IsStill}
use Rattle.aeth_network.specs.Cursors.{routing_with}
use Rattle.aeth_network.proofs.Cycling.{can-bring}
use Rattle.aeth_network.proofs.SeenNetworks.{Becomes, becomes-stepped, seen, seen_next}
use Rattle.aeth_network.proofs.Skipped.{brought-is}
use Rattle.aeth_network.proofs.network.RoutedNetwork.begin.Goals as goal

-- The state has room for what the cycle brings.
pub bring-requires : goal.bring-requires
bring-requires c =
    let rows = c.rows-rows.ensures in
    can-bring c.self.inside c.self.invariant.0 c.rows-rows.result rows.session_starts rows.offers
    rows.takes

-- What is brought is all that the cycle does.
step : (c : goal.After-self-3-1)
    → Becomes (vec_capacity c.bring.new.self.replaced) (seen_next c.self.inside c.bring.new.self)
    (stepped (seen c.self.inside))
step c =
    let inside = c.self.inside in
    let has = c.self.invariant.2 in
    let rows = c.rows-rows.ensures in
    let start = c.requires.time in
    let some = c.requires.some in
    let early : inside.time < inside.log.cycles =
    subst (λ (all : NetworkState). all.time < all.log.cycles) (sym c.self.view_is) (omega arith) in
    becomes-stepped (vec_capacity inside.state.replaced) _ _ _ c.self.invariant.0
    c.bring.ensures.capacity has early
    (brought-is inside c.self.invariant.0 has
    (c.networks_rest.ensures.one has.inputs has.of.accepted (routing_with inside.given) has.of.routed)
    (subst IsStill (sym c.self.view_is) c.requires.still) early c.rows-rows.result
    rows.session_starts
    rows.offers rows.takes rows.events c.bring.new.self c.bring.ensures)

pub returns-clause-steps : goal.returns-clause-steps
returns-clause-steps c = (step c).is ∙ ap stepped c.self.view_is

-- What holds of networks holds behind it.
pub invariant_of-self : goal.invariant_of-self
invariant_of-self c = ((step c).network, c.rows-rows.ensures.behind, (step c).has)
