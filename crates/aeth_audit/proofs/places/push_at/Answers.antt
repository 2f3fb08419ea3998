use Rattle.aeth_audit.proofs.CellLemmas.{pushed-cell}
use Rattle.aeth_audit.proofs.places.push_at.Goals as goal

-- The place stands at the end of its cell.
pub returns-clause-cells : goal.returns-clause-cells
returns-clause-cells c =
    pushed-cell c.args.cells.now c.args.cell _ c.push.new.self c.args.place c.requires
    c.in_ok-push.ensures.items
