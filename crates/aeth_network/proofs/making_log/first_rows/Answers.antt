use Rattle.std.proofs.Common.{◌≡◌, ◌∙◌, ◌+◌, ◌≤◌, Some, ap, arith, map, slice_get, sym}
use Rattle.std.proofs.lemmas.List.{Elements.All-filter, FromFn.map-range_with_len_more}
use Rattle.std.proofs.lemmas.Option.{get_or_from_slice_get, slice_get_within}
use Rattle.aeth_base.specs.Limits.{max_cycles}
use Rattle.aeth_server.specs.{ChannelShape.shape_of, FinishTimes.due_cycle, Progress.Progress}
use Rattle.aeth_server.specs.{Shape.channel_latency}
use Rattle.aeth_trace.specs.{Channels.is_channel, Words.words_on, declared.words.WordRow.WordRow}
use Rattle.aeth_running.specs.FirstLog.{first_row, rows_of}
use Rattle.aeth_schedule.proofs.Places.{on-few}
use Rattle.aeth_network.proofs.RowLemmas.{due-more, get-behind, index-map}
use Rattle.aeth_network.proofs.making_log.first_rows.Goals as goal

-- There aren't too many words.
pub step-requires-clause-few : goal.step-requires-clause-few
step-requires-clause-few c =
    let few = on-few c.args.words.now c.args.session_start.now.channel in
    let there = c.requires.session_start.there in
    let all = c.requires.words.few in
    let place = ap (λ (progress : Progress). progress.words) c.loop-place.invariant.due in
    let within = c.loop-place-test.true in
    omega arith

-- They are offered within the longest run.
pub step-requires-clause-early : goal.step-requires-clause-early
step-requires-clause-early c =
    let channel = c.args.session_start.now.channel in
    let all = All-filter (λ (row : WordRow). is_channel channel row.channel)
    (λ (row : WordRow). row.cycle ≤ max_cycles) c.args.words.now c.requires.words.cycles in
    let place = c.args.session_start.now.before + c.loop-place.place in
    let rows = words_on c.args.words.now channel in
    let word = c.nth_word-word.result in
    let early = all place word (slice_get_within rows place word c.nth_word-word.ensures) in
    let same = ap (λ (row : WordRow). row.cycle)
    (get_or_from_slice_get rows place word word c.nth_word-word.ensures) in
    let cycle = c.from.ensures in
    omega arith

-- One row more, and its word's due time.
pub loop-place-preserved : goal.loop-place-preserved
loop-place-preserved c =
    let words = c.args.words.now in
    let session_start = c.args.session_start.now in
    let place = c.loop-place.place in
    let shape = shape_of session_start.shape in
    let rows = rows_of words session_start in
    let word = c.nth_word-word.result in
    let at : slice_get rows place ≡ Some word =
    get-behind (words_on words session_start.channel) session_start.before session_start.count place
    word
    c.nth_word-word.ensures c.loop-place-test.true in
    let cycle = index-map (λ (row : WordRow). row.cycle) rows place word at in
    let value = index-map (λ (row : WordRow). row.value) rows place word at in
    let due = due-more shape.size shape.rate (channel_latency shape)
    (map (λ (row : WordRow). row.cycle) rows) place c.from.result c.loop-place.due c.step.new.self
    c.loop-place.invariant.due (cycle ∙ sym c.from.ensures) c.step.ensures.word in
    let due_is = c.step.ensures.due
    ∙ ap (λ (progress : Progress). due_cycle progress.rate progress.finish) due in
    record {
      rows = rw (c.in_ok-push.ensures.items, c.loop-place.invariant.rows, due_is, ← cycle, ← value)
          (sym (map-range_with_len_more (first_row words session_start) 0 place place
          (omega arith)));
      due = due;
    }
