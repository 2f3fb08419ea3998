use Rattle.std.proofs.Common.{◌≡◌, ◌<◌, ◌∙◌, ap, arith, length, subst, sym, slice_range}
use Rattle.std.proofs.Common.{vec_capacity}
use Rattle.aeth_components.specs.{Components.ComponentsState, FlitsOnWires.flits_on}
use Rattle.aeth_running.specs.{Network.NetworkState, Network.stepped, Routing.later_rows}
use Rattle.aeth_network.specs.Routes.{routing_in}
use Rattle.aeth_network.proofs.Cycling.{can-bring, events-doable, stepped-behind}
use Rattle.aeth_network.proofs.Enterings.{later-takes, size-entered}
use Rattle.aeth_network.proofs.SeenNetworks.{Becomes, becomes-stepped, seen, seen_next}
use Rattle.aeth_network.proofs.network.RoutedNetwork.cycle_with_rows.Given as given
use Rattle.aeth_network.proofs.network.RoutedNetwork.cycle_with_rows.Goals as goal

-- The state has room for what the cycle brings.
pub bring-requires : goal.bring-requires
bring-requires g c =
    let rows = c.rows-rows.ensures in
    can-bring c.self.inside c.self.invariant.0 c.rows-rows.result rows.session_starts rows.offers
    rows.takes

-- The rows that enter are in range of the tables.
pub enter-requires-clause-takes : goal.enter-requires-clause-takes
enter-requires-clause-takes g c =
    let has = c.self.invariant.2 in
    rw (c.rows-rows.ensures.tables, c.bring.ensures.components)
    (later-takes has.inputs (seen c.self.inside) has.of)

-- Components are as many as before.
size : (g : given.Over) (c : goal.After-run-arg-2-1 g)
    → length c.enter.new.components.parts ≡ length c.args.self.now.components.parts
size g c =
    let parts = λ (all : ComponentsState). all.parts in
    size-entered (slice_range (later_rows (routing_in c.rows-rows.result.tables.now))
    c.self.inside.cursors.entering c.rows-rows.result.behind.entering)
    c.self.inside.state.components.parts c.bring.new.self.components.parts
    c.enter.new.components.parts (ap parts c.bring.ensures.components) (ap parts c.enter.ensures)
    ∙ ap (λ (all : NetworkState). length all.components.parts) c.self.view_is

-- The order is of all components, in a cycle of the run.
pub run-requires-clause-order : goal.run-requires-clause-order
run-requires-clause-order g c = c.requires.order ∙ sym (size g c)

pub run-requires-clause-time : goal.run-requires-clause-time
run-requires-clause-time g c =
    let time = ap (λ (all : NetworkState). all.time) c.self.view_is in
    let cycles = ap (λ (all : NetworkState). all.log.cycles) c.self.view_is in
    let most = c.self.invariant.0.cycles in
    omega arith

-- The components can do the events.
pub run-requires-clause-events : goal.run-requires-clause-events
run-requires-clause-events g c =
    let rows = c.rows-rows.ensures in
    events-doable c.self.inside c.self.invariant.0 c.rows-rows.result rows.session_starts
    rows.offers
    rows.takes c.bring.new.self c.bring.ensures rows.events c.enter.new.components rows.tables
    rows.entering c.enter.ensures

-- The network is behind one more cycle, and what holds of networks holds of it.
step : (g : given.Over) (c : goal.After-self-3-1 g)
    → Becomes (vec_capacity c.bring.new.self.replaced)
    (seen_next c.self.inside (record c.bring.new.self { components = c.run.new.components }))
    (stepped (seen c.self.inside))
step g c =
    let inside = c.self.inside in
    let rows = c.rows-rows.ensures in
    becomes-stepped (vec_capacity inside.state.replaced) _ _ _ c.self.invariant.0
    c.bring.ensures.capacity c.self.invariant.2
    (subst (λ (all : NetworkState). all.time < all.log.cycles) (sym c.self.view_is) c.requires.time)
    (stepped-behind inside c.self.invariant.0 c.rows-rows.result rows.session_starts rows.offers
    rows.takes
    c.bring.new.self c.bring.ensures rows.events c.enter.new.components rows.tables rows.entering
    c.enter.ensures c.run.new.components c.run.ensures.cycle)

pub invariant_of-self : goal.invariant_of-self
invariant_of-self g c = ((step g c).network, c.rows-rows.ensures.behind, (step g c).has)

pub returns-clause-steps : goal.returns-clause-steps
returns-clause-steps g c = (step g c).is ∙ ap stepped c.self.view_is

-- No component comes or goes.
pub returns-clause-parts : goal.returns-clause-parts
returns-clause-parts g c = c.run.ensures.cycle.size ∙ size g c.before.before.before.before

-- So many steps: no wire changes before them.
pub returns-clause-counted : goal.returns-clause-counted
returns-clause-counted g c =
    let wires = λ (all : ComponentsState). all.wires in
    let counted = c.run.ensures.steps in
    let same : flits_on c.enter.new.components.wires ≡ flits_on c.args.self.now.components.wires =
    ap flits_on (ap wires c.enter.ensures ∙ ap wires c.bring.ensures.components
    ∙ ap (λ (all : NetworkState). all.components.wires) c.self.view_is) in
    omega arith
