use Rattle.std.proofs.Common.{◌∷◌, [], append_assoc, codes}
use Rattle.std.proofs.lemmas.List.Elements.{All-tail}
use Rattle.toml.specs.View.{table_view}
use Rattle.aeth_document.specs.{Arrays.tables_in, Values.text_at}
use Rattle.aeth_app.specs.{Ranges.IsNamed, Tables.names_in}
use Rattle.aeth_app.proofs.names.list_of.Goals as goal

-- One name more, at the end.
pub loop-table-preserved : goal.loop-table-preserved
loop-table-preserved c =
    let left = rw c.in-Some.ensures.steps at c.loop-table.invariant in
    let table = c.in-Some.table.now in
    let name = text_at (codes "name") (table_view table) in
    let rest = names_in (tables_in c.next.new.self) in
    record {
      all = rw (c.in_ok-push.ensures.items, c.name_at.ensures, append_assoc c.loop-table.list.items (name ∷ []) rest) left.all;
      named = All-tail IsNamed (table_view table) (tables_in c.next.new.self) left.named;
    }
