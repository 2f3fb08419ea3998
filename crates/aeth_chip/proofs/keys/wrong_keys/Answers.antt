use Rattle.std.proofs.Common.{◌≡◌, ◌∙◌, ◌∷◌, List, [], Option, ap, ap₂, map}
use Rattle.toml.specs.View.{table_view}
use Rattle.aeth_base.specs.declared.shown.Shown.{Shown}
use Rattle.aeth_chip.specs.ChipFile.{link_fields, root_fields, wrong_keys}
use Rattle.aeth_chip.specs.Told.{link_tables, version_of}
use Rattle.aeth_document.specs.{Arrays.tables_in, Keys.fields_view, Keys.wrong_key, Walks.walked}
use Rattle.aeth_document.specs.{declared.walk.Walk.Walk}
use Rattle.aeth_document.proofs.WalkLemmas.{walked-append}
use Rattle.aeth_chip.proofs.keys.wrong_keys.Goals as goal

-- One check, and then a list of them.
then_list : (before after end : Walk) (one first : Option Shown)
    (checks others : List (Option Shown))
    → after ≡ walked before (one ∷ []) → end ≡ walked after checks → one ≡ first
    → checks ≡ others → end ≡ walked before (first ∷ others)
then_list before after end one first checks others is ends first_is others_are =
    ends ∙ ap (λ walk. walked walk checks) is ∙ walked-append before (one ∷ []) checks
    ∙ ap₂ (λ x xs. walked before (x ∷ xs)) first_is others_are

-- The root's keys, then those of the links.
pub returns : goal.returns
unfolding wrong_keys
returns c =
    let root = table_view c.args.root.now in
    let checks = map (wrong_key (fields_view c.link_fields.result.now))
    (tables_in c.link_tables.result) in
    let others = map (wrong_key (link_fields (version_of root))) (link_tables root) in
    let others_are : checks ≡ others =
    ap₂ (λ fields tables. map (wrong_key fields) tables)
    c.link_fields.ensures c.link_tables.ensures in
    then_list c.args.walk c.check.result c.keys.result c.wrong_key.result
    (wrong_key root_fields root) checks others c.check.ensures c.keys.ensures
    c.wrong_key.ensures others_are
