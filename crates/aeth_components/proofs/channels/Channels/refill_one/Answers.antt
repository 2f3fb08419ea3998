use Rattle.std.proofs.Common.{◌≡◌, ◌∙◌, List, ap, arith, length, refl, slice_get, Some}
use Rattle.std.proofs.Common.{get_or-set_same}
use Rattle.std.proofs.lemmas.Option.{slice_get_read}
use Rattle.aeth_components.proofs.{HomeLemmas.AreHomes-kept, HomeLemmas.StaysAtHome-refilled}
use Rattle.aeth_components.proofs.{channels.Channels.refill_one.Goals.After-refill_one}
use Rattle.aeth_components.proofs.{MarkLemmas.AreMarked-turned, MarkLemmas.kept-alone}
use Rattle.aeth_components.proofs.{SkipLemmas.turned-there, TurnLemmas.TakesNothing-refilled}
use Rattle.aeth_components.proofs.{TurnLemmas.refilled-none, WaitingLemmas.AreEnqueuing-settled}
use Rattle.aeth_components.specs.{declared.channel_state.ChannelState.ChannelState}
use Rattle.aeth_components.specs.{Busy.IsChannelIdle, Channels.ChannelsState, Phases.Moment}
use Rattle.aeth_components.specs.{Phases.refilled}
use Rattle.aeth_router.specs.declared.part.Part.{Part}
use Rattle.aeth_components.proofs.channels.Channels.refill_one.Goals as goal

-- The channel has a mark.
pub mark_idle-requires-clause-number : goal.mark_idle-requires-clause-number
mark_idle-requires-clause-number c =
    let number = c.requires.number in let room =
    c.requires.enqueuing.room in omega (arith, number, room)

-- The channel at its place.
at : (c : goal.After-refill_one)
    → slice_get c.self.inside.channel_states.items c.args.number ≡ Some c.index_mut.result.now
at c =
    let size = ap (λ (all : ChannelsState). length all.channel_states) c.self.view_is in
    slice_get_read c.self.inside.channel_states.items (length c.self.inside.channel_states.items)
    c.args.number
    c.index_mut.result.now refl (omega (arith, size, c.requires.number)) c.index_mut.ensures.value

-- The channel has had its turn among those that enqueue words.
pub returns-clause-enqueuing : goal.returns-clause-enqueuing
returns-clause-enqueuing c =
    let channel_states = c.self.inside.channel_states.items in
    let new = c.refill_one.new.channel_state in
    let size = ap (λ (all : ChannelsState). length all.channel_states) c.self.view_is in
    let same = c.index.ensures
    ∙ get_or-set_same channel_states c.args.number new c.index.result.now
    (omega (arith, size, c.requires.number)) in
    AreEnqueuing-settled c.deref.result.now c.args.cycle c.args.parts.now c.refill_one.new.parts
    channel_states
    c.args.number c.index_mut.result.now new c.args.enqueuing.now c.mark_idle.new.self
    (at ((goal.at.returns-clause-enqueuing c).After-refill_one)) c.refill_one.ensures.turn
    c.refill_one.ensures.full (rw same at c.mark_idle.ensures)
    (rw (← c.self.view_is) at c.requires.enqueuing)

-- What is idle is as it was, and so are channels whose receivers take nothing.
pub invariant_of-self : goal.invariant_of-self
invariant_of-self c =
    let all = c.self.inside in
    let turn = refilled c.deref.result.now c.args.cycle in
    let now : Moment =
    record { parts = c.args.parts.now; channel_states = all.channel_states.items } in
    let channel_state = c.index_mut.result.now in
    let at = at ((goal.at.invariant_of-self c).After-refill_one) in
    let done : List Part × ChannelState =
    (c.refill_one.new.parts, c.refill_one.new.channel_state) in
    record {
      idle = AreMarked-turned turn (kept-alone IsChannelIdle turn
          (λ parts channel_state idle. refilled-none c.deref.result.now c.args.cycle parts
          channel_state idle.enqueued))
          all.busy now c.args.number channel_state done at c.refill_one.ensures.turn
          c.self.invariant.idle;
      takes = AreMarked-turned turn (TakesNothing-refilled c.deref.result.now c.args.cycle) all.taking
          now c.args.number channel_state done at c.refill_one.ensures.turn c.self.invariant.takes;
      places = AreHomes-kept all.homes all.channel_states.items c.args.number channel_state
          c.refill_one.new.channel_state at
          (rw (ap (λ (pair : List Part × ChannelState). pair.1) c.refill_one.ensures.turn)
          (StaysAtHome-refilled c.deref.result.now c.args.cycle c.args.parts.now channel_state))
          c.self.invariant.places;
    }

-- The channel has had its turn.
pub returns-clause-turn : goal.returns-clause-turn
returns-clause-turn c =
    let now : Moment =
    record { parts = c.args.parts.now; channel_states = c.self.inside.channel_states.items } in
    rw (← c.self.view_is, ← c.deref.ensures.value)
    (turned-there (refilled c.deref.result.now c.args.cycle) now c.args.number
    c.index_mut.result.now (c.refill_one.new.parts, c.refill_one.new.channel_state)
    (at ((goal.at.returns-clause-turn c).After-refill_one)) c.refill_one.ensures.turn)
