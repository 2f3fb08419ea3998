use Rattle.aeth_report.{specs.Flows.server_of, proofs.ClosingLemmas.lands_by_finish}
use Rattle.aeth_report.{proofs.FinalCounts.is_below, proofs.FinalCounts.landed-final}
use Rattle.aeth_report.{proofs.FinalCounts.taken-final, proofs.OneFlit.session-paths}
use Rattle.aeth_report.proofs.laws.counts_are_final.Goals as goal

-- Nothing lands and nothing is taken from the finish on.
pub returns-clause-landed : goal.returns-clause-landed
returns-clause-landed c run sound channel session has =
    landed-final (server_of run channel session) (session-paths run sound channel session has)
    run.cycles (lands_by_finish run sound channel session has)

pub returns-clause-taken : goal.returns-clause-taken
returns-clause-taken c run sound channel session has =
    taken-final (server_of run channel session) (session-paths run sound channel session has)
    run.cycles

pub returns-clause-ended : goal.returns-clause-ended
returns-clause-ended c run channel session =
    is_below (server_of run channel session).finish run.cycles
