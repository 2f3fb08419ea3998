use Rattle.std.proofs.Common.{◌∙◌, ◌++◌, ◌∷◌, [], map, sym, codes}
use Rattle.toml.specs.View.{table_view}
use Rattle.aeth_document.specs.{Arrays.tables_in, Values.text_at, Walks.repeats}
use Rattle.aeth_document.proofs.WalkLemmas.{walked-ended}
use Rattle.aeth_app.specs.Tables.{names_in}
use Rattle.aeth_app.proofs.repeats.with_names.Goals as goal

-- Where the walk has stopped, the tables that are left don't change it.
pub returns-then-not-goes_on : goal.returns-then-not-goes_on
returns-then-not-goes_on c =
    let seen = map (λ t. t.now) c.loop-table.seen.keys in
    let name = text_at (codes "name") (table_view c.in-Some.table.now) in
    let more = repeats (seen ++ name ∷ []) (names_in (tables_in c.next.new.self)) in
    let before = rw c.in-Some.ensures.steps at c.loop-table.invariant in
    let ended = rw c.check-walk.ensures at (sym c.if-not-goes_on.ensures) in
    c.check-walk.ensures ∙ walked-ended c.loop-table.walk c.in_ok-repeated.field-0 more ended
    ∙ rw (c.in_ok-repeated.ensures.shown, c.text_at.ensures) before
