use Rattle.std.proofs.Common.{sym}
use Rattle.aeth_schedule.proofs.Places.{values-more}
use Rattle.aeth_schedule.proofs.placing.values.Goals as goal

-- One connection more.
pub loop-c-preserved : goal.loop-c-preserved
loop-c-preserved c =
    rw (c.in_ok-push_connection.ensures, c.loop-c.invariant)
    (sym (values-more c.args.words.now c.loop-c.c))
