use Rattle.aeth_reconf.specs.Timeline.{timeline_of}
use Rattle.aeth_audit.proofs.OneReservation.{reserved-one}
use Rattle.aeth_audit.proofs.ReservationLemmas.{reserved-all, reserved-only}
use Rattle.aeth_audit.proofs.laws.reservations.Goals as goal

-- By the channel, the session and the place.
pub returns-clause-only : goal.returns-clause-only
returns-clause-only c = reserved-only

pub returns-clause-every : goal.returns-clause-every
returns-clause-every c = reserved-all

-- Sessions with a common cycle are together, and grants that are together don't conflict.
pub returns-clause-one : goal.returns-clause-one
returns-clause-one c run sound l t = reserved-one run sound
    (timeline_of run.design.groups run.spans run.switches)
    (c.timelines_have_sessions.ensures run.design.groups run.spans run.switches) l t
