use Rattle.std.proofs.Common.{◌∷◌, [], append_assoc, map}
use Rattle.std.proofs.lemmas.List.Elements.{All-tail}
use Rattle.toml.specs.View.{table_view}
use Rattle.aeth_document.specs.Arrays.{tables_in}
use Rattle.aeth_app.specs.{Parts.connection_of, Ranges.IsConnectionInRange, Ranges.IsNamed}
use Rattle.aeth_app.proofs.parts.connections_of.Goals as goal

-- One more of them.
pub loop-table-preserved : goal.loop-table-preserved
loop-table-preserved c =
    let left = rw c.in-Some.ensures.steps at c.loop-table.invariant in
    let table = table_view c.in-Some.table.now in
    let rest = tables_in c.next.new.self in
    record {
      all = rw (
        c.in_ok-push.ensures.items,
        c.name_at.ensures,
        c.end_of.ensures,
        c.text_at.ensures,
        c.end_of-in-loop-table.ensures,
        c.text_at-in-loop-table.ensures,
        c.wish_in.ensures,
        c.wish_in-in-loop-table.ensures,
        append_assoc c.loop-table.connections.items (connection_of c.args.cores.now table ∷ [])
            (map (connection_of c.args.cores.now) rest),
      ) left.all;
      named = All-tail IsNamed table rest left.named;
      wishes = All-tail IsConnectionInRange table rest left.wishes;
    }
