use Rattle.std.proofs.Common.{◌∙◌, ◌<◌, List, ap, arith, length, refl, set, get_or-set_same}
use Rattle.std.proofs.lemmas.Option.{slice_get_read}
use Rattle.aeth_components.specs.Channels.{ChannelsState}
use Rattle.aeth_components.specs.declared.channel_state.ChannelState.{ChannelState}
use Rattle.aeth_components.proofs.channels.Channels.accept.Goals.{After-note}
use Rattle.aeth_components.proofs.ChannelStateLemmas.{set-with_channel_state}
use Rattle.aeth_components.proofs.MarkLemmas.{AreMarked-marked, AreMarked-set}
use Rattle.aeth_components.proofs.channels.Channels.accept.Goals as goal

-- There is such a channel.
within : (c : goal.After-note) → c.args.number < length c.self.inside.channel_states.items
within c =
    let size = ap (λ (all : ChannelsState). length all.channel_states) c.self.view_is in
    let number = c.requires in
    omega (arith, size, number)

-- The channel is marked, and its receiver takes as before.
pub invariant_of-self : goal.invariant_of-self
invariant_of-self c =
    let all = c.self.inside in
    let channel_states = all.channel_states.items in
    let number = c.args.number in
    let channel_state = c.index_mut.result.now in
    let new : ChannelState = record channel_state { accepted = c.args.accepted } in
    record {
      idle = AreMarked-marked all.busy c.mark.new.self channel_states number new c.mark.ensures.room
          c.mark.ensures.here c.mark.ensures.away c.self.invariant.idle;
      takes = AreMarked-set all.taking channel_states number channel_state new
          (slice_get_read channel_states (length channel_states) number channel_state refl
          (within c) c.index_mut.ensures.value)
          (λ takes. takes)
          c.self.invariant.takes;
      places = rw (c.index.ensures ∙ get_or-set_same channel_states number new _ (within c)) at
          (c.note.ensures channel_states c.self.invariant.places (within c));
    }

-- Its accepted words have changed.
pub returns : goal.returns
returns c =
    let channel_states = c.self.inside.channel_states.items in
    let number = c.args.number in
    let channel_state = c.index_mut.result.now in
    rw (← c.self.view_is) (
    ap (λ (channel_states : List ChannelState).
    record { channel_states = channel_states; words = c.self.inside.words.items })
    (ap (λ (now : ChannelState). set channel_states number
    (record now { accepted = c.args.accepted }))
    c.index_mut.ensures.value
    ∙ set-with_channel_state channel_states number
    (λ now. record now { accepted = c.args.accepted }) channel_state (within c)))
