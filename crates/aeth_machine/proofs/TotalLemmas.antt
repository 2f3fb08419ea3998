-- Laws of what a log comes to.
use Rattle.std.proofs.Common.{◌≤◌, List, length, nat_lt, sum_by}
use Rattle.std.proofs.lemmas.List.Sums.{count_by-le-length, sum_by-le-sum_by}
use Rattle.aeth_report.specs.{Log.ChannelData, Regular.landings_in}
use Rattle.aeth_machine.specs.Totals.{late_in, late_rows}

-- There are no more late landings than landings.
pub late-le-landings : (channels : List ChannelData)
    → sum_by late_in channels ≤ sum_by landings_in channels
late-le-landings channels =
    sum_by-le-sum_by late_in landings_in channels (λ one.
    sum_by-le-sum_by (λ session. late_rows session.rows) (λ session. length session.rows)
    one.sessions (λ session.
    count_by-le-length (λ row. nat_lt row.due row.landed) session.rows))
