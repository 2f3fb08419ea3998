use Rattle.aeth_rtable.proofs.RowRanges.{rows-fit}
use Rattle.aeth_rtable.proofs.laws.rows_fit.Goals as goal

-- A link behind another of a path begins at the router where the other ends.
pub returns : goal.returns
returns c = rows-fit
