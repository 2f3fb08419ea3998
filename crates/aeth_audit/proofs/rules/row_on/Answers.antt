use Rattle.std.proofs.Common.{◌∙◌, length, refl, sym}
use Rattle.std.proofs.lemmas.Option.{slice_get_read}
use Rattle.aeth_audit.proofs.SearchLemmas.{row-found, row-past}
use Rattle.aeth_audit.proofs.rules.row_on.Goals as goal

-- No row is left.
pub returns-in-None : goal.returns-in-None
returns-in-None c =
    sym (row-past c.args.log.now.rows.now c.requires.log.rise c.args.cycle c.args.link.0 c.rows_before.result
    c.rows_before.ensures c.in-None.ensures.lookup.3)

-- The first that doesn't come before is the one, or none is.
pub returns-in-Some : goal.returns-in-Some
returns-in-Some c =
    c.kept_on.ensures ∙ sym (row-found c.args.log.now.rows.now c.requires.log.rise c.args.cycle c.args.link.0
    c.rows_before.result c.rows_before.ensures c.in-Some.row.now
    (slice_get_read c.args.log.now.rows.now (length c.args.log.now.rows.now) c.rows_before.result c.in-Some.row.now
    refl c.in-Some.ensures.lookup.3.0 c.in-Some.ensures.lookup.1))
