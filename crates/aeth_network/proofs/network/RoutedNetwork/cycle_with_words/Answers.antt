use Rattle.std.proofs.Common.{◌≡◌, ◌<◌, ◌+◌, ◌∙◌, List, ap, arith, length, refl, subst, sym, All}
use Rattle.std.proofs.Common.{vec_capacity}
use Rattle.aeth_components.specs.{Components.ComponentsCycle, declared.event.Event.Event}
use Rattle.aeth_running.specs.Network.{NetworkState, stepped}
use Rattle.aeth_stimuli.specs.Stimuli.{Offer}
use Rattle.aeth_network.specs.{Behind.passed, Brought.BringsWords, Fits.AreFit}
use Rattle.aeth_network.specs.{declared.state.State.State}
use Rattle.aeth_network.proofs.Cycling.{offers-now}
use Rattle.aeth_network.proofs.QuietPlaces.{cursors-words}
use Rattle.aeth_network.proofs.SeenNetworks.{Becomes, becomes-stepped, in-order, seen, seen_next}
use Rattle.aeth_network.proofs.WordCycles.{calm-stepped, fit-words, words-are}
use Rattle.aeth_network.proofs.network.RoutedNetwork.cycle_with_words.Given as given
use Rattle.aeth_network.proofs.network.RoutedNetwork.cycle_with_words.Goals as goal

-- The words are those of the cycle.
pub offer-requires-clause-time : goal.offer-requires-clause-time
offer-requires-clause-time g c =
    let inside = c.self.inside in
    subst (All (λ (one : Offer). one.cycle ≡ inside.time))
    (sym (words-are inside c.self.invariant.0
    (subst BringsWords (sym c.self.view_is) c.requires.words).calm inside.cursors.offer
    c.behind-last.result c.deref.result.now c.deref-3.result.now c.deref.ensures.value
    c.deref-3.ensures.value c.behind-last.ensures)) (offers-now inside c.self.invariant.0)

-- They have room.
pub offer-requires-clause-fit : goal.offer-requires-clause-fit
offer-requires-clause-fit g c =
    let inside = c.self.inside in
    let brings = subst BringsWords (sym c.self.view_is) c.requires.words in
    rw c.deref-2.ensures.value
    (subst (λ (offers : List Offer). AreFit (length inside.state.components.words)
    (length inside.state.components.parts) inside.state.untils.items offers
    inside.state.components.channel_states)
    (sym (words-are inside c.self.invariant.0 brings.calm inside.cursors.offer c.behind-last.result
    c.deref.result.now c.deref-3.result.now c.deref.ensures.value c.deref-3.ensures.value
    c.behind-last.ensures)) (fit-words inside c.self.invariant.0 brings.calm))

-- The network is behind one more cycle, and what holds of networks holds of it.
step : (g : given.Over) (c : goal.After-self-2-1 g)
    → Becomes (vec_capacity c.self.inside.state.replaced)
    (seen_next c.self.inside (record c.self.inside.state {
      components = c.step_counted.new.self;
      outside = c.offer.new.outside;
    })) (stepped (seen c.self.inside))
step g c =
    let inside = c.self.inside in
    let brings = subst BringsWords (sym c.self.view_is) c.requires.words in
    let offered = words-are inside c.self.invariant.0 brings.calm inside.cursors.offer
    c.behind-last.result c.deref.result.now c.deref-3.result.now c.deref.ensures.value
    c.deref-3.ensures.value c.behind-last.ensures in
    let next : State = record inside.state {
      components = c.step_counted.new.self;
      outside = c.offer.new.outside;
    } in
    becomes-stepped (vec_capacity inside.state.replaced) _ _ _ c.self.invariant.0 (omega arith)
    c.self.invariant.2
    (subst (λ (all : NetworkState). all.time < all.log.cycles) (sym c.self.view_is) c.requires.time)
    (calm-stepped inside c.self.invariant.0 brings.calm c.offer.new.components c.step_counted.new.self
    next (rw (c.offer.ensures.components, c.deref-2.ensures.value, offered) refl)
    (subst (λ (events : List Event).
    ComponentsCycle events inside.time c.offer.new.components c.step_counted.new.self)
    (sym brings.eventless) c.step_counted.ensures.cycle) refl refl refl
    (rw (c.offer.ensures.outside, c.deref-2.ensures.value, offered) refl))

pub invariant_of-self : goal.invariant_of-self
invariant_of-self g c =
    let inside = c.self.inside in (
      (step g c).network,
      cursors-words inside.cursors (seen inside) c.behind-last.result
          (in-order (vec_capacity inside.state.replaced) (seen inside) c.self.invariant.0)
          c.self.invariant.1 (subst BringsWords (sym c.self.view_is) c.requires.words)
          (c.behind-last.ensures.place
          ∙ ap (passed (λ (one : Offer). one.cycle) (inside.time + 1)) c.deref.ensures.value),
      (step g c).has,
    )

pub returns-clause-steps : goal.returns-clause-steps
returns-clause-steps g c = (step g c).is ∙ ap stepped c.self.view_is
