use Rattle.std.proofs.Common.{◌<◌, ◌∙◌, arith, length, subst, sym}
use Rattle.std.proofs.lemmas.Option.{get_or_from_slice_get}
use Rattle.aeth_network.specs.Records.{IsFresh}
use Rattle.aeth_network.proofs.Adding.{added-more, added-none, added-past}
use Rattle.aeth_network.proofs.making_log.add_sessions.Goals.{else-number-channels}
use Rattle.aeth_network.proofs.making_log.add_sessions.Goals.{then-number-channels+in_ok-add_session}
use Rattle.aeth_network.proofs.making_log.add_sessions.Goals as goal

-- None is added.
pub loop-place-init : goal.loop-place-init
loop-place-init c = added-none c.args.words.now c.args.cycles c.args.channels.now

-- One session more is added, where its channel is known.
pub loop-place-preserved : goal.loop-place-preserved
loop-place-preserved c =
    let words = c.args.words.now in
    let session_starts = c.args.session_starts.now in
    let session_start = c.at-session_start.result in
    let place = c.loop-place.place in
    let number = c.number_of-number.result in
    let last = c.loop-place-test.true in
    let end = c.loop-place.auto.place-end in
    let count = c.len-place-end.ensures in
    let there : place < length session_starts = omega arith in
    let size = c.loop-place.auto.channels in
    elim c.if-number-channels.branch [
      | then-number-channels+in_ok-add_session w ↦
          let within = w.if-number-channels.true in
          w.channels-is
          ∙ added-more words c.args.cycles session_starts session_start place number there
          (sym (get_or_from_slice_get session_starts place session_start session_start
          c.at-session_start.ensures)) c.number_of-number.ensures c.args.channels.now
          c.loop-place.channels
          w.index-channels-number.result w.add_session.new.channel (omega arith)
          c.loop-place.invariant w.in_ok-add_session.ensures
      | else-number-channels w ↦
          let past = w.if-number-channels.false in
          w.channels-is ∙ c.loop-place.invariant
          ∙ added-past words c.args.cycles session_starts session_start place number there
          (sym (get_or_from_slice_get session_starts place session_start session_start
          c.at-session_start.ensures)) c.number_of-number.ensures c.args.channels.now (omega arith)
    ]

-- Its words are there.
pub add_session-requires-clause-session_start : goal.add_session-requires-clause-session_start
add_session-requires-clause-session_start c =
    let session_starts = c.args.session_starts.now in
    let session_start = c.at-session_start.result in
    let place = c.loop-place.place in
    let last = c.loop-place-test.true in
    let end = c.loop-place.auto.place-end in
    let count = c.len-place-end.ensures in
    subst (IsFresh c.args.words.now)
    (get_or_from_slice_get session_starts place session_start session_start
    c.at-session_start.ensures)
    (c.requires.session_starts place session_start (omega arith))
