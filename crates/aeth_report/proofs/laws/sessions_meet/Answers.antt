use Rattle.aeth_report.proofs.SessionMeetings.{sessions_alone, sessions_meet}
use Rattle.aeth_report.proofs.laws.sessions_meet.Goals as goal

-- By the finish of what each switch closes.
pub returns-clause-group : goal.returns-clause-group
returns-clause-group c run sound x y t s e has_s has_e used_s used_e =
    (sessions_meet run.design.groups run.spans run.switches x y t sound.apart s e has_s has_e
    used_s used_e).group

pub returns-clause-together : goal.returns-clause-together
returns-clause-together c run sound x y t s e has_s has_e used_s used_e =
    (sessions_meet run.design.groups run.spans run.switches x y t sound.apart s e has_s has_e
    used_s used_e).together

pub returns-clause-alone : goal.returns-clause-alone
returns-clause-alone c run sound x t =
    sessions_alone run.design.groups run.spans run.switches x t sound.apart
