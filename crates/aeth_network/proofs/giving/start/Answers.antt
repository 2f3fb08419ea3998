use Rattle.std.proofs.Common.{◌≡◌, ◌∙◌, ◌<◌, List, ap, arith, fold, length, subst, sym, take}
use Rattle.std.proofs.lemmas.{List.Sums.fold_more, Option.get_or_from_slice_get}
use Rattle.aeth_trace.specs.Channels.{channel_number}
use Rattle.aeth_components.specs.{Components.ComponentsState, ChannelStates.IsChannelState}
use Rattle.aeth_components.specs.{declared.channel_state.ChannelState.ChannelState}
use Rattle.aeth_running.specs.Network.{gone_with, until_with}
use Rattle.aeth_schedule.specs.declared.session_start.SessionStart.{SessionStart}
use Rattle.aeth_network.proofs.ChannelStateCounts.{channel_states-gone, length-untils}
use Rattle.aeth_network.proofs.giving.start.Goals as goal

-- There are as many channels as before.
pub start_one-requires-clause-session_start : goal.start_one-requires-clause-session_start
start_one-requires-clause-session_start c =
    let place = c.loop-place.place in
    let session_start = c.at-session_start.result in
    let last = c.loop-place-test.true in
    let end = c.loop-place.auto.place-end in
    let count = c.len-place-end.ensures in
    let within = c.requires.session_starts place session_start (omega arith) in
    let same = channel_states-gone c.loop-place.components c.args.components.now
    (take place c.args.session_starts.now) c.loop-place.invariant.components in
    subst (λ (one : SessionStart). channel_number one.channel
    < length c.loop-place.components.channel_states)
    (get_or_from_slice_get c.args.session_starts.now place session_start session_start
    c.at-session_start.ensures)
    (omega (arith, within, same))

pub start_one-requires-clause-few : goal.start_one-requires-clause-few
start_one-requires-clause-few c =
    let few = c.requires.few in
    let same = channel_states-gone c.loop-place.components c.args.components.now
    (take c.loop-place.place c.args.session_starts.now) c.loop-place.invariant.components in
    omega arith

pub start_one-requires-clause-untils : goal.start_one-requires-clause-untils
start_one-requires-clause-untils c =
    ap length c.loop-place.invariant.untils
    ∙ length-untils (take c.loop-place.place c.args.session_starts.now) c.args.untils.now.items
    ∙ c.requires.untils ∙ sym
    (channel_states-gone c.loop-place.components c.args.components.now
    (take c.loop-place.place c.args.session_starts.now) c.loop-place.invariant.components)

-- Its ends are there, and its words.
pub start_one-requires-clause-channel_state : goal.start_one-requires-clause-channel_state
start_one-requires-clause-channel_state c =
    let old = c.args.components.now in
    let session_starts = c.args.session_starts.now in
    let place = c.loop-place.place in
    let session_start = c.at-session_start.result in
    let last = c.loop-place-test.true in
    let end = c.loop-place.auto.place-end in
    let count = c.len-place-end.ensures in
    subst (λ (all : ComponentsState). IsChannelState (length all.words) (length all.parts)
    session_start.channel_state)
    (sym c.loop-place.invariant.components)
    (subst (λ (one : SessionStart). IsChannelState (length old.words) (length old.parts)
    one.channel_state)
    (get_or_from_slice_get session_starts place session_start session_start
    c.at-session_start.ensures)
    (c.requires.channel_states place session_start (omega arith)))

-- One session more has gone.
pub loop-place-preserved : goal.loop-place-preserved
loop-place-preserved c =
    let old = c.args.components.now in
    let untils = c.args.untils.now.items in
    let session_starts = c.args.session_starts.now in
    let place = c.loop-place.place in
    let session_start = c.at-session_start.result in
    let last = c.loop-place-test.true in
    let end = c.loop-place.auto.place-end in
    let count = c.len-place-end.ensures in
    let there : place < length session_starts = omega arith in
    let is = sym
    (get_or_from_slice_get session_starts place session_start session_start
    c.at-session_start.ensures) in
    record {
      components = c.start_one.ensures.components
          ∙ ap (λ (all : ComponentsState).
          record all { channel_states = gone_with all.channel_states session_start })
          c.loop-place.invariant.components
          ∙ ap (λ (channel_states : List ChannelState).
          record old { channel_states = channel_states })
          (ap (gone_with (fold gone_with old.channel_states (take place session_starts))) is
          ∙ sym (fold_more gone_with old.channel_states session_starts place session_start there));
      untils = c.start_one.ensures.untils
          ∙ ap (λ all. until_with all session_start) c.loop-place.invariant.untils
          ∙ ap (until_with (fold until_with untils (take place session_starts))) is
          ∙ sym (fold_more until_with untils session_starts place session_start there);
    }
