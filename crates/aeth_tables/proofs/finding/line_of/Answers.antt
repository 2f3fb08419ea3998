use Rattle.std.proofs.Common.{◌∙◌, length, refl, sym, eq-eqb}
use Rattle.std.proofs.lemmas.Option.{slice_get-get_or, slice_get_read}
use Rattle.aeth_tables.proofs.SearchLaws.{seat-only, seat-past, seat-there}
use Rattle.aeth_tables.proofs.finding.line_of.Goals as goal

-- The line that was looked at is the one.
pub returns-then-seats-place : goal.returns-then-seats-place
returns-then-seats-place c =
    let seats = c.args.seats.now in
    let core = c.args.core in
    sym (seat-only seats c.requires core core.0 _
    (slice_get-get_or seats core.0 _ c.if-place-seats.true)
    (eq-eqb _ core.0 c.if-seats-place.true))

-- No line is left.
pub returns-in-None : goal.returns-in-None
returns-in-None c =
    sym (seat-past c.args.seats.now c.requires c.args.core c.seats_before.result
    c.seats_before.ensures c.in-None.ensures.lookup.3)

-- The first of no core before it is the one, or none is.
pub returns-in-Some : goal.returns-in-Some
returns-in-Some c =
    c.kept_seat.ensures ∙ sym (seat-there c.args.seats.now c.requires c.args.core
    c.seats_before.result c.seats_before.ensures c.in-Some.line.now
    (slice_get_read c.args.seats.now (length c.args.seats.now) c.seats_before.result
    c.in-Some.line.now refl c.in-Some.ensures.lookup.3.0 c.in-Some.ensures.lookup.1))
