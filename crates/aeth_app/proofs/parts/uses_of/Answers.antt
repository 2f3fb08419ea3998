use Rattle.std.proofs.Common.{◌∷◌, [], append_assoc, map}
use Rattle.std.proofs.lemmas.List.Elements.{All-tail}
use Rattle.toml.specs.View.{table_view}
use Rattle.aeth_document.specs.Arrays.{tables_in}
use Rattle.aeth_app.specs.{Parts.use_of, Ranges.IsNamed}
use Rattle.aeth_app.proofs.parts.uses_of.Goals as goal

-- One more of them.
pub loop-table-preserved : goal.loop-table-preserved
loop-table-preserved c =
    let left = rw c.in-Some.ensures.steps at c.loop-table.invariant in
    let table = table_view c.in-Some.table.now in
    let rest = tables_in c.next.new.self in
    let connections = c.args.names.now.connections in
    let uses = c.args.names.now.uses in
    record {
      all = rw (
        c.in_ok-push.ensures.items,
        c.name_at.ensures,
        c.in_ok-named_marks.ensures,
        c.texts_at.ensures,
        c.in_ok-named_marks-2.ensures,
        c.texts_at-in-loop-table.ensures,
        append_assoc c.loop-table.uses.items (use_of connections uses table ∷ [])
            (map (use_of connections uses) rest),
      ) left.all;
      named = All-tail IsNamed table rest left.named;
    }
