use Rattle.aeth_report.proofs.RunRows.{landing_row}
use Rattle.aeth_report.proofs.laws.rows_are_landings.Goals as goal

-- A log has a row for each word that has landed.
pub returns : goal.returns
returns c = landing_row
