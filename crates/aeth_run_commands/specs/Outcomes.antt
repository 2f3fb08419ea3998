-- The logs that inputs give, by the machines that play their runs.
-- This project's own.
use Rattle.aeth_accepted.specs.Inputs.{Inputs}
use Rattle.aeth_report.specs.Log.{LogData}

-- The log by a machine whose routers read headers, and by one whose routers look slot tables up.
pub record Outcomes : Type 0 where
  pub headers : Inputs → LogData
  pub tables : Inputs → LogData
