use Rattle.std.proofs.Common.{◌≡◌, ◌<◌, ◌∙◌, List, ap, arith, refl, subst, sym, vec_capacity}
use Rattle.aeth_components.specs.{Components.ComponentsCycle, declared.event.Event.Event}
use Rattle.aeth_running.specs.Network.{NetworkState, stepped}
use Rattle.aeth_network.specs.{Brought.IsCalm, declared.state.State.State}
use Rattle.aeth_network.proofs.Cycling.{counts-now, events-known, offers-known, offers-now}
use Rattle.aeth_network.proofs.SeenNetworks.{Becomes, becomes-stepped, in-order, seen, seen_next}
use Rattle.aeth_network.proofs.WordCycles.{calm-stepped, fit-words}
use Rattle.aeth_network.proofs.network.RoutedNetwork.cycle_with_events.Given as given
use Rattle.aeth_network.proofs.network.RoutedNetwork.cycle_with_events.Goals as goal

-- What is given comes in order, and the cycle is calm.
pub calm_rows-rows-requires-clause-order : goal.calm_rows-rows-requires-clause-order
calm_rows-rows-requires-clause-order g c =
    in-order (vec_capacity c.self.inside.state.replaced) (seen c.self.inside) c.self.invariant.0

pub calm_rows-rows-requires-clause-calm : goal.calm_rows-rows-requires-clause-calm
calm_rows-rows-requires-clause-calm g c =
    subst (λ (all : NetworkState). IsCalm all.stimuli all.routing all.time) (sym c.self.view_is)
    c.requires.calm

-- The words are those of the cycle, and have room.
pub offer-requires : goal.offer-requires
offer-requires g c =
    let inside = c.self.inside in
    let is = c.self.invariant.0 in
    let calm = subst (λ (all : NetworkState). IsCalm all.stimuli all.routing all.time)
    (sym c.self.view_is) c.requires.calm in
    let offers = c.calm_rows-rows.ensures.offers in
    record {
      offers = rw offers (offers-known inside is);
      time = rw offers (offers-now inside is);
      untils = rw c.deref.ensures.value is.untils;
      outside = is.outside;
      fit = rw (c.deref.ensures.value, offers) (fit-words inside is calm);
      counts = rw offers (counts-now inside is);
      words = is.few_words;
    }

-- The components can do the events.
pub step_counted-requires-clause-events : goal.step_counted-requires-clause-events
step_counted-requires-clause-events g c =
    rw (c.calm_rows-rows.ensures.events, c.offer.ensures.components)
    (events-known c.self.inside c.self.invariant.0)

-- The network is behind one more cycle, and what holds of networks holds of it.
step : (g : given.Over) (c : goal.After-self-3-1 g)
    → Becomes (vec_capacity c.self.inside.state.replaced)
    (seen_next c.self.inside (record c.self.inside.state {
      components = c.step_counted.new.self;
      outside = c.offer.new.outside;
    })) (stepped (seen c.self.inside))
step g c =
    let inside = c.self.inside in
    let calm = subst (λ (all : NetworkState). IsCalm all.stimuli all.routing all.time)
    (sym c.self.view_is) c.requires.calm in
    let offers = c.calm_rows-rows.ensures.offers in
    let next : State = record inside.state {
      components = c.step_counted.new.self;
      outside = c.offer.new.outside;
    } in
    becomes-stepped (vec_capacity inside.state.replaced) _ _ _ c.self.invariant.0 (omega arith)
    c.self.invariant.2
    (subst (λ (all : NetworkState). all.time < all.log.cycles) (sym c.self.view_is) c.requires.time)
    (calm-stepped inside c.self.invariant.0 calm c.offer.new.components c.step_counted.new.self next
    (rw (c.offer.ensures.components, c.deref.ensures.value, offers) refl)
    (subst (λ (events : List Event).
    ComponentsCycle events inside.time c.offer.new.components c.step_counted.new.self)
    c.calm_rows-rows.ensures.events c.step_counted.ensures.cycle) refl refl refl
    (rw (c.offer.ensures.outside, c.deref.ensures.value, offers) refl))

pub invariant_of-self : goal.invariant_of-self
invariant_of-self g c = ((step g c).network, c.calm_rows-rows.ensures.behind, (step g c).has)

pub returns-clause-steps : goal.returns-clause-steps
returns-clause-steps g c = (step g c).is ∙ ap stepped c.self.view_is
