use Rattle.std.proofs.Common.{◌≡◌, ◌<◌, ◌++◌, ◌∷◌, ◌∙◌, [], List, ap, arith, length, map, rules}
use Rattle.std.proofs.Common.{subst, take, length-append, length-take}
use Rattle.std.proofs.lemmas.{List.length-map, List.get_or_default, Option.get_or_from_slice_get}
use Rattle.std.specs.List.{slice_index_or}
use Rattle.aeth_trace.specs.Channels.{channel_number}
use Rattle.aeth_components.specs.declared.channel_state.ChannelState.{ChannelState}
use Rattle.aeth_schedule.proofs.Places.{map-take-more}
use Rattle.aeth_schedule.specs.declared.session_start.SessionStart.{SessionStart}
use Rattle.aeth_stimuli.specs.Loaded.{no_channel_state}
use Rattle.aeth_network.proofs.giving.note.Goals as goal

-- There is room for one more.
pub note_one-requires : goal.note_one-requires
note_one-requires c =
    let session_starts = c.args.session_starts.now in
    let place = c.loop-place.place in
    let f = λ (one : SessionStart). slice_index_or c.args.channel_states.now
    (channel_number one.channel) no_channel_state in
    let before = map f (take place session_starts) in
    let last = c.loop-place-test.true in
    let end = c.loop-place.auto.place-end in
    let count = c.len-place-end.ensures in
    let size = ap length c.loop-place.invariant.items in
    let both = length-append c.args.replaced.now.items before in
    let mapped = length-map (take place session_starts) f in
    let taken = length-take place session_starts in
    let held = c.loop-place.invariant.capacity in
    let room = c.requires.room in
    omega arith

-- One channel more is noted.
pub loop-place-preserved : goal.loop-place-preserved
loop-place-preserved c =
    let session_starts = c.args.session_starts.now in
    let channel_states = c.args.channel_states.now in
    let session_start = c.at-session_start.result in
    let place = c.loop-place.place in
    let last = c.loop-place-test.true in
    let end = c.loop-place.auto.place-end in
    let count = c.len-place-end.ensures in
    let there : channel_number session_start.channel < length channel_states =
    subst (λ (one : SessionStart). channel_number one.channel < length channel_states)
    (get_or_from_slice_get session_starts place session_start session_start
    c.at-session_start.ensures)
    (c.requires.session_starts place session_start (omega arith)) in
    let f = λ (one : SessionStart). slice_index_or channel_states (channel_number one.channel)
    no_channel_state in
    let more = map-take-more f c.args.replaced.now.items session_starts place session_start
    c.at-session_start.ensures in
    let number = c.number_of-number.result in
    let same = c.number_of-number.ensures in
    let within : number < length channel_states = omega arith in
    let pushed = c.note_one.ensures.items
    ∙ ap (λ (channel_state : ChannelState). c.loop-place.replaced.items ++ channel_state ∷ [])
    (get_or_default channel_states number _ no_channel_state within
    ∙ ap (λ n. slice_index_or channel_states n no_channel_state) same) in
    record {
      items = pushed
          ∙ ap (λ (all : List ChannelState). all ++ f session_start ∷ [])
          c.loop-place.invariant.items
          ∙ more;
      capacity = search rules;
    }
