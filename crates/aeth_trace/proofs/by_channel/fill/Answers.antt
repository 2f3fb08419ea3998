use Rattle.std.proofs.Common.{◌≡◌, ◌∙◌, Some, length, refl, slice_get}
use Rattle.std.proofs.lemmas.Option.{slice_get_read}
use Rattle.aeth_trace.proofs.IndexLemmas.{listed-more}
use Rattle.aeth_trace.proofs.by_channel.fill.Goals as goal

-- One more row.
pub loop-number-preserved : goal.loop-number-preserved
loop-number-preserved g c =
    let rows = c.args.rows.now in
    let row = c.index-rows-number.result in
    let number = c.loop-number.number in
    let at : slice_get rows number ≡ Some row =
    slice_get_read rows (length rows) number row refl c.loop-number-test.true
    c.index-rows-number.is in
    let pushed = rw (c.channel_number.ensures, c.channel.ensures) at
    c.in_ok-push_at.ensures.lists in
    record {
      size = c.push_at.ensures.size ∙ c.loop-number.invariant.size;
      listed = listed-more g.R.OnChannel.on rows row number c.loop-number.lists
          c.push_at.new.lists at c.loop-number.invariant.listed pushed;
    }
