use Rattle.std.proofs.Common.{◌≡◌, List, ap, arith, inl, length, refl, slice_get, Some}
use Rattle.std.proofs.lemmas.Option.{slice_get_read}
use Rattle.aeth_router.specs.declared.part.Part.{Part}
use Rattle.aeth_components.specs.{declared.channel_state.ChannelState.ChannelState}
use Rattle.aeth_components.specs.{Busy.IsChannelIdle, Busy.TakesNothing, Channels.ChannelsState}
use Rattle.aeth_components.specs.{Phases.pulled}
use Rattle.aeth_components.proofs.{HomeLemmas.AreHomes-kept, HomeLemmas.StaysAtHome-pulled}
use Rattle.aeth_components.proofs.{channels.Channels.take_one.Goals.After-take_one}
use Rattle.aeth_components.proofs.{MarkLemmas.AreMarked-turned, MarkLemmas.kept-alone}
use Rattle.aeth_components.proofs.{SkipLemmas.turned-there, TurnLemmas.pulled-none}
use Rattle.aeth_components.proofs.channels.Channels.take_one.Goals as goal

-- The channel at its place.
at : (c : goal.After-take_one)
    → slice_get c.self.inside.channel_states.items c.args.number ≡ Some c.index_mut.result.now
at c =
    let size = ap (λ (all : ChannelsState). length all.channel_states) c.self.view_is in
    slice_get_read c.self.inside.channel_states.items (length c.self.inside.channel_states.items)
    c.args.number
    c.index_mut.result.now refl (omega (arith, size, c.requires.number)) c.index_mut.ensures.value

-- A channel whose receiver takes nothing is as it was.
pub mark_idle-requires-clause-marked : goal.mark_idle-requires-clause-marked
mark_idle-requires-clause-marked c =
    let all = c.self.inside in
    rw c.deref.ensures.value (AreMarked-turned (pulled c.args.cycle)
    (kept-alone IsChannelIdle (pulled c.args.cycle)
    (λ parts channel_state idle. pulled-none c.args.cycle parts channel_state (inl idle.taken)))
    all.busy
    (record { parts = c.args.parts.now; channel_states = all.channel_states.items }) c.args.number
    c.index_mut.result.now (c.take_one.new.parts, c.take_one.new.channel_state)
    (at ((goal.at.mark_idle-requires-clause-marked c).After-take_one)) c.take_one.ensures.turn
    c.self.invariant.idle)

pub rest-requires-clause-marked : goal.rest-requires-clause-marked
rest-requires-clause-marked c =
    let all = c.self.inside in
    rw c.deref-2.ensures.value (AreMarked-turned (pulled c.args.cycle)
    (kept-alone TakesNothing (pulled c.args.cycle) (pulled-none c.args.cycle)) all.taking
    (record { parts = c.args.parts.now; channel_states = all.channel_states.items }) c.args.number
    c.index_mut.result.now (c.take_one.new.parts, c.take_one.new.channel_state)
    (at ((goal.at.rest-requires-clause-marked c).After-take_one)) c.take_one.ensures.turn
    c.self.invariant.takes)

-- The channel has had its turn.
pub returns-clause-turn : goal.returns-clause-turn
returns-clause-turn c =
    rw (← c.self.view_is) (turned-there (pulled c.args.cycle)
    (record { parts = c.args.parts.now; channel_states = c.self.inside.channel_states.items })
    c.args.number
    c.index_mut.result.now (c.take_one.new.parts, c.take_one.new.channel_state)
    (at ((goal.at.returns-clause-turn c).After-take_one)) c.take_one.ensures.turn)

-- The channel stays at its place.
pub invariant_of-self : goal.invariant_of-self
invariant_of-self c =
    let all = c.self.inside in
    let channel_state = c.index_mut.result.now in
    record {
      idle = rw c.deref.ensures.value at c.mark_idle.ensures;
      takes = rw c.deref-2.ensures.value at c.rest.ensures;
      places = AreHomes-kept all.homes all.channel_states.items c.args.number channel_state
          c.take_one.new.channel_state
          (at ((goal.at.invariant_of-self c).After-take_one))
          (rw (ap (λ (pair : List Part × ChannelState). pair.1) c.take_one.ensures.turn)
          (StaysAtHome-pulled c.args.cycle c.args.parts.now channel_state)) c.self.invariant.places;
    }
