use Rattle.aeth_report.proofs.RegularLogs.{log-regular}
use Rattle.aeth_report.proofs.laws.logs_are_regular.Goals as goal

-- Each word is told once, and a flit at most for each link and cycle.
pub returns : goal.returns
returns c = log-regular
