use Rattle.aeth_trace.specs.{Words.words_on, declared.words.WordRow.WordRow}
use Rattle.aeth_schedule.proofs.Places.{map-take-more}
use Rattle.aeth_schedule.proofs.placing.push_channel.Goals as goal

-- One word more.
pub loop-place-preserved : goal.loop-place-preserved
loop-place-preserved c =
    rw (c.in_ok-push.ensures.items, c.loop-place.invariant)
    (map-take-more (λ (row : WordRow). row.value) c.args.values.now.items
    (words_on c.args.words.now c.args.channel) c.loop-place.place c.nth_word.result
    c.nth_word.ensures)
