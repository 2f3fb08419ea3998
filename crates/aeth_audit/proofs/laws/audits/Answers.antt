use Rattle.std.proofs.Common.{filter, nat_lt}
use Rattle.aeth_reconf.specs.Timeline.{timeline_of}
use Rattle.aeth_audit.proofs.FaultLemmas.{audit-is}
use Rattle.aeth_audit.proofs.laws.audits.Goals as goal

-- Row by row.
pub returns : goal.returns
returns c run sound log cycles = audit-is run sound
    (timeline_of run.design.groups run.spans run.switches)
    (c.timelines_have_sessions.ensures run.design.groups run.spans run.switches) cycles
    (filter (λ row. nat_lt row.cycle cycles) log)
