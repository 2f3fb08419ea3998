use Rattle.std.proofs.Common.{◌∙◌, All, sym, ap, subst}
use Rattle.aeth_tables.specs.{TableText.IsRowOf, Tables.TablesData}
use Rattle.aeth_tables.specs.{declared.promised.PromisedRow.PromisedRow}
use Rattle.aeth_tables.proofs.TextLaws.{all_promised}
use Rattle.aeth_tables.proofs.printing.table_text.Goals as goal

-- The rows name what there is.
pub text_of_rows-requires-clause-sizes : goal.text_of_rows-requires-clause-sizes
text_of_rows-requires-clause-sizes c =
    let told = c.deref-3.ensures.value ∙ c.in_ok-rows.ensures in
    let rows = c.deref.ensures.value ∙ ap (λ (t : TablesData). t.rows) c.tables.view_is in
    λ k d within.
    (subst (λ xs. All (λ (one : PromisedRow). IsRowOf c.args.chip.now c.args.app.now one.row) xs)
    (sym told)
    (all_promised (IsRowOf c.args.chip.now c.args.app.now) c.deref.result.now c.deref-2.result.now
    (subst (λ xs. All (IsRowOf c.args.chip.now c.args.app.now) xs) (sym rows) c.requires.rows))
    k d within).size

pub text_of_rows-requires-clause-names : goal.text_of_rows-requires-clause-names
text_of_rows-requires-clause-names c =
    let told = c.deref-3.ensures.value ∙ c.in_ok-rows.ensures in
    let rows = c.deref.ensures.value ∙ ap (λ (t : TablesData). t.rows) c.tables.view_is in
    λ k d within.
    (subst (λ xs. All (λ (one : PromisedRow). IsRowOf c.args.chip.now c.args.app.now one.row) xs)
    (sym told)
    (all_promised (IsRowOf c.args.chip.now c.args.app.now) c.deref.result.now c.deref-2.result.now
    (subst (λ xs. All (IsRowOf c.args.chip.now c.args.app.now) xs) (sym rows) c.requires.rows))
    k d within).conn
