use Rattle.std.proofs.Common.{◌∙◌, ◌≡◌, sym, true}
use Rattle.toml.specs.View.{table_view}
use Rattle.aeth_document.specs.{Keys.fields_view, Keys.missing_keys, Keys.misfit_keys}
use Rattle.aeth_document.specs.{Keys.entries_of, Keys.least_wrong_key, KeysInOrder.fits_in_order}
use Rattle.aeth_document.proofs.KeysInOrder.{none_wrong}
use Rattle.aeth_document.proofs.Least.{ascending, least-append_none, least-append_misfits}
use Rattle.aeth_document.proofs.keys.least_wrong_key.Goals as goal

-- The fields are in order, so no key is wrong.
pub returns-then-fits_in_order : goal.returns-then-fits_in_order
returns-then-fits_in_order c =
    let fields = fields_view c.args.fields.now in
    let fits : fits_in_order fields (entries_of (table_view c.args.table.now)) ≡ true =
    sym c.fits_in_order.ensures.fits ∙ c.if-fits_in_order.true in
    none_wrong fields (table_view c.args.table.now)
    (ascending _ c.fits_in_order.ensures.ordered) fits

-- No key fits badly, so the least missing one is the least.
pub returns-in-None : goal.returns-in-None
unfolding least_wrong_key
returns-in-None c =
    let ms = table_view c.args.table.now in
    let fields = fields_view c.args.fields.now in
    c.missing_key-missing.ensures
    ∙ sym (least-append_none (missing_keys ms fields) (misfit_keys fields (entries_of ms))
    c.in-None.ensures.first)

-- The first key that fits badly is the least of these.
pub returns-in-Some : goal.returns-in-Some
unfolding least_wrong_key
returns-in-Some c =
    let ms = table_view c.args.table.now in
    let fields = fields_view c.args.fields.now in
    rw c.missing_key-missing.ensures at c.lesser_where.ensures
    ∙ least-append_misfits fields (missing_keys ms fields) (entries_of ms) c.in-Some.key.now
    (ascending _ c.in-Some.ensures.ordered) c.in-Some.ensures.first
