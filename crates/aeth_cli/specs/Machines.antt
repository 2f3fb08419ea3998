-- The networks that play runs.
-- This project's own.
use Rattle.aeth_accepted.specs.Inputs.{Inputs, run_of}
use Rattle.aeth_report.specs.{Log.LogData, RunLog.log_of}
use Rattle.aeth_run_commands.specs.Outcomes.{Outcomes}

-- The log that a network gives: that of one private server for each session, with no network between
-- them.
abbrev pub network_outcome : Inputs → LogData
network_outcome inputs = log_of (run_of inputs)

-- Both networks give it: the one whose routers read headers, and the one whose routers look slot tables
-- up.
abbrev pub network_outcomes : Outcomes
network_outcomes = record { headers = network_outcome; tables = network_outcome }
