use Rattle.aeth_report.proofs.ClosingLemmas.{lands_by_finish}
use Rattle.aeth_report.proofs.SessionOrder.{sessions_after, sessions_follow}
use Rattle.aeth_report.proofs.laws.sessions_close.Goals as goal

-- A switch is over before the next one begins.
pub returns-clause-begins : goal.returns-clause-begins
returns-clause-begins c run sound n =
    sessions_after run.design.groups run.spans run.switches n sound.apart

-- Switches follow one another.
pub returns-clause-follow : goal.returns-clause-follow
returns-clause-follow c run sound x y =
    sessions_follow run.design.groups run.spans run.switches x y sound.apart

-- A switch takes as long as the path of what it closes.
pub returns-clause-landed : goal.returns-clause-landed
returns-clause-landed c = lands_by_finish
