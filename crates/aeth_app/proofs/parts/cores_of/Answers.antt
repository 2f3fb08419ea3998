use Rattle.std.proofs.Common.{◌∷◌, [], append_assoc, map}
use Rattle.std.proofs.lemmas.List.Elements.{All-tail}
use Rattle.toml.specs.View.{table_view}
use Rattle.aeth_document.specs.Arrays.{tables_in}
use Rattle.aeth_app.specs.{Parts.core_of, Ranges.IsNamed}
use Rattle.aeth_app.proofs.parts.cores_of.Goals as goal

-- One more of them.
pub loop-table-preserved : goal.loop-table-preserved
loop-table-preserved c =
    let left = rw c.in-Some.ensures.steps at c.loop-table.invariant in
    let table = table_view c.in-Some.table.now in
    let rest = tables_in c.next.new.self in
    record {
      all = rw (
        c.in_ok-push.ensures.items,
        c.name_at.ensures,
        c.ni_of.ensures,
        c.text_if.ensures,
        append_assoc c.loop-table.cores.items (core_of c.args.chip.now.nis table ∷ [])
            (map (core_of c.args.chip.now.nis) rest),
      ) left.all;
      named = All-tail IsNamed table rest left.named;
    }
