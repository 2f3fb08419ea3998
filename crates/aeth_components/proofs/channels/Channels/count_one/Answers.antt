use Rattle.std.proofs.Common.{◌≡◌, ◌∙◌, ap, arith, length, refl, set, slice_get, Some, sym}
use Rattle.std.proofs.lemmas.Option.{same_Some, slice_get_read}
use Rattle.aeth_components.proofs.HomeLemmas.{IsIdle-counted, AreHomes-kept, StaysAtHome-counted}
use Rattle.aeth_components.proofs.channels.Channels.count_one.Goals.{After-count_one}
use Rattle.aeth_components.proofs.ChannelStateLemmas.{set-with_channel_state}
use Rattle.aeth_components.proofs.MarkLemmas.{AreMarked-marked, AreMarked-set}
use Rattle.aeth_components.specs.{Channels.ChannelsState, Channels.OfChannelState, Counting.counted}
use Rattle.aeth_components.specs.{Counting.noted, ChannelStates.with_channel_state}
use Rattle.aeth_components.proofs.channels.Channels.count_one.Goals as goal

-- The channel at its place.
at : (c : goal.After-count_one)
    → slice_get c.self.inside.channel_states.items c.args.number ≡ Some c.index_mut.result.now
at c =
    let size = ap (λ (all : ChannelsState). length all.channel_states) c.self.view_is in
    slice_get_read c.self.inside.channel_states.items (length c.self.inside.channel_states.items)
    c.args.number
    c.index_mut.result.now refl (omega (arith, size, c.requires.number)) c.index_mut.ensures.value

-- An idle channel is as it was, and one of which words have landed is marked.
pub invariant_of-self : goal.invariant_of-self
invariant_of-self c =
    let all = c.self.inside in
    let channel_states = all.channel_states.items in
    let channel_state = c.index_mut.result.now in
    let new = c.count_one.new.channel_state in
    let at = at ((goal.at.invariant_of-self c).After-count_one) in
    record {
      idle = AreMarked-set all.busy channel_states c.args.number channel_state new at
          (λ idle. rw c.count_one.ensures.channel_state
          (IsIdle-counted c.args.cycle c.args.parts.now channel_state idle))
          c.self.invariant.idle;
      takes = AreMarked-marked all.taking c.mark.new.self channel_states c.args.number new
          c.mark.ensures.room c.mark.ensures.here c.mark.ensures.away c.self.invariant.takes;
      places = AreHomes-kept all.homes channel_states c.args.number channel_state new at
          (rw c.count_one.ensures.channel_state
          (StaysAtHome-counted c.args.cycle c.args.parts.now channel_state))
          c.self.invariant.places;
    }

-- The channel is counted, and its landings are noted.
channel_states : (c : goal.After-count_one)
    → set c.self.inside.channel_states.items c.args.number c.count_one.new.channel_state
    ≡ with_channel_state c.args.number (counted c.args.cycle c.args.parts.now)
    c.args.self.now.channel_states
channel_states c =
    let count = counted c.args.cycle c.args.parts.now in
    let size = ap (λ (all : ChannelsState). length all.channel_states) c.self.view_is in
    rw (← c.self.view_is) (
    ap (set c.self.inside.channel_states.items c.args.number)
    (c.count_one.ensures.channel_state ∙ ap count c.index_mut.ensures.value)
    ∙ set-with_channel_state c.self.inside.channel_states.items c.args.number count
    c.index_mut.result.now
    (omega (arith, size, c.requires.number)))

landings : (c : goal.After-count_one) → OfChannelState c.args.self.now.channel_states c.args.number
    (λ channel_state. c.count_one.new.landings
    ≡ noted c.args.cycle c.args.parts.now c.args.landings.now channel_state)
landings c channel_state there =
    c.count_one.ensures.landings
    ∙ ap (noted c.args.cycle c.args.parts.now c.args.landings.now)
    (same_Some c.index_mut.result.now channel_state (sym (at c) ∙ (rw (← c.self.view_is) at there)))

pub returns-then-count_one-clause-channel_states : goal.returns-then-count_one-clause-channel_states
returns-then-count_one-clause-channel_states c =
    channel_states ((goal.at.returns-then-count_one-clause-channel_states c).After-count_one)

pub returns-else-count_one-clause-channel_states : goal.returns-else-count_one-clause-channel_states
returns-else-count_one-clause-channel_states c =
    channel_states ((goal.at.returns-else-count_one-clause-channel_states c).After-count_one)

pub returns-then-count_one-clause-landings : goal.returns-then-count_one-clause-landings
returns-then-count_one-clause-landings c =
    landings ((goal.at.returns-then-count_one-clause-landings c).After-count_one)

pub returns-else-count_one-clause-landings : goal.returns-else-count_one-clause-landings
returns-else-count_one-clause-landings c =
    landings ((goal.at.returns-else-count_one-clause-landings c).After-count_one)
