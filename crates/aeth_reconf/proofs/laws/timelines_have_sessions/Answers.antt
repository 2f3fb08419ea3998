use Rattle.std.proofs.{Common.[], Common.arith, lemmas.List.FromFn.get_or-map-range_with_len}
use Rattle.aeth_report.specs.Sessions.{sessions_of}
use Rattle.aeth_reconf.proofs.laws.timelines_have_sessions.Goals as goal

-- At its place.
pub returns : goal.returns
returns c groups spans rows n known =
    get_or-map-range_with_len (λ k. sessions_of groups spans k rows) 0 groups.connections n n []
    known (omega arith)
