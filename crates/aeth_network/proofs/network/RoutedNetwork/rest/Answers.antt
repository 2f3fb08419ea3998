use Rattle.std.proofs.Common.{◌≡◌, ◌≤◌, ◌<◌, ◌-◌, ◌∙◌, ap, drop, length, subst, sym, All}
use Rattle.std.proofs.Common.{vec_capacity}
use Rattle.std.proofs.lemmas.List.Elements.{All-drop, All-take}
use Rattle.aeth_running.specs.Network.{NetworkState, played}
use Rattle.aeth_stimuli.specs.Stimuli.{Take}
use Rattle.aeth_network.specs.{Behind.passed, Cursors.routing_with}
use Rattle.aeth_network.proofs.PullLemmas.{cycle_of}
use Rattle.aeth_network.proofs.SeenNetworks.{Becomes, seen}
use Rattle.aeth_network.proofs.Skipped.{MayRest, place-rises, rests-behind, rests-cursors}
use Rattle.aeth_network.proofs.network.RoutedNetwork.rest.Goals as goal

-- The rows before this cycle lie before the other one.
pub place_before-last-requires-clause-from : goal.place_before-last-requires-clause-from
place_before-last-requires-clause-from c =
    let inside = c.self.inside in
    place-rises inside.given.takes.items c.deref.result.now c.deref.ensures.value inside.cursors.take
    inside.time c.args.to c.self.invariant.1.take_is
    (subst (λ (all : NetworkState). all.time ≤ c.args.to) (sym c.self.view_is) c.requires.from)

-- They are of channels that there are.
pub take-requires : goal.take-requires
take-requires c =
    let inside = c.self.inside in
    let first = inside.cursors.take in
    let here = λ (one : Take). one.number < length inside.state.components.channel_states in
    All-take here (c.place_before-last.result - first) (drop first c.deref-2.result.now)
    (All-drop here first c.deref-2.result.now
    (subst (All here) (sym c.deref-2.ensures.value) c.self.invariant.0.stimuli.takes))

-- The later cycles leave the network, and the place is behind their rows.
may : (c : goal.After-self-2-1) → MayRest (seen c.self.inside) c.args.to
may c = subst (λ (all : NetworkState). MayRest all c.args.to) (sym c.self.view_is) (record {
  from = c.requires.from;
  within = c.requires.to;
  late = c.requires.late;
  still = c.requires.still;
})

last : (c : goal.After-self-2-1)
    → c.place_before-last.result ≡ passed cycle_of c.args.to c.self.inside.given.takes.items
last c = c.place_before-last.ensures.place ∙ ap (passed cycle_of c.args.to) c.deref.ensures.value

-- The network is behind these cycles.
behind : (c : goal.After-self-2-1) → Becomes (vec_capacity c.self.inside.state.replaced)
    (record (seen c.self.inside) { components = c.take.new.components; time = c.args.to })
    (played (c.args.to - c.self.inside.time) (seen c.self.inside))
behind c =
    let inside = c.self.inside in
    let has = c.self.invariant.2 in
    rests-behind (vec_capacity inside.state.replaced) (seen inside) c.self.invariant.0 has c.args.to
    (may c) (c.networks_rest.ensures.later has.inputs has.of.accepted (routing_with inside.given)
    has.of.routed) c.take.new.components c.deref-2.result.now inside.cursors.take
    c.place_before-last.result c.deref-2.ensures.value c.self.invariant.1.take_is (last c)
    c.take.ensures

pub returns-clause-played : goal.returns-clause-played
returns-clause-played c =
    (behind c).is ∙ ap (λ (one : NetworkState). played (c.args.to - one.time) one) c.self.view_is

-- What holds of networks holds of it.
pub invariant_of-self : goal.invariant_of-self
invariant_of-self c = (
  (behind c).network,
  rests-cursors (vec_capacity c.self.inside.state.replaced) (seen c.self.inside) c.self.invariant.0
      c.self.invariant.2 c.args.to (may c) c.self.inside.cursors c.place_before-last.result
      c.self.invariant.1 (last c),
  (behind c).has,
)
