use Rattle.std.proofs.Common.{◌∙◌, arith, get_or, length, refl, sym}
use Rattle.std.proofs.lemmas.Option.{slice_get_read}
use Rattle.aeth_trace.specs.Channels.{channel_number, list_at, rows_on}
use Rattle.aeth_trace.proofs.IndexLemmas.{numbered, numbered_within}
use Rattle.aeth_trace.proofs.by_channel.ByChannel.row.Goals as goal

-- The number at the place is that of a row.
pub bounds-rows-numbers : goal.bounds-rows-numbers
bounds-rows-numbers g c =
    rw (c.list_at-numbers.ensures, c.deref.ensures.value, c.channel_number.ensures)
    (numbered_within c.args.rows.now (rows_on g.R.OnChannel.on c.args.channel c.args.rows.now)
    (list_at c.args.self.now.lists.items (channel_number c.args.channel)) c.args.place
    (c.requires.index c.args.channel) c.requires.place)

pub offset_bounds-rows-numbers : goal.offset_bounds-rows-numbers
offset_bounds-rows-numbers g c =
    let within = bounds-rows-numbers g c in
    omega arith

-- The row with this number is the one at the place.
pub returns : goal.returns
returns g c =
    let rows = c.args.rows.now in
    let numbers = list_at c.args.self.now.lists.items (channel_number c.args.channel) in
    let kept = rows_on g.R.OnChannel.on c.args.channel rows in
    let same = c.requires.index c.args.channel in
    let within = numbered_within rows kept numbers c.args.place same c.requires.place in
    let read = rw (c.list_at-numbers.ensures, c.deref.ensures.value, c.channel_number.ensures) at
    c.index-rows-numbers.is in
    sym (numbered rows kept numbers c.args.place same c.requires.place)
    ∙ slice_get_read rows (length rows) (get_or numbers c.args.place 0) c.index-rows-numbers.result
    refl within read
