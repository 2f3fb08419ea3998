-- What the log of a run comes to.
-- This project's own.
use Rattle.std.proofs.Common.{ℕ, nat_lt, List, count_by, sum_by}
use Rattle.aeth_report.specs.{Log.ChannelData, declared.log.Landing.Landing}

-- The landings that are later than their due cycle.
abbrev pub late_rows : List Landing → ℕ
late_rows rows = count_by (λ row. nat_lt row.due row.landed) rows

-- Those of the sessions of a channel.
abbrev pub late_in : ChannelData → ℕ
late_in one = sum_by (λ session. late_rows session.rows) one.sessions
