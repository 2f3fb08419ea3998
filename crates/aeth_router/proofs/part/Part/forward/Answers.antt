use Rattle.std.proofs.Common.{length}
use Rattle.aeth_clocked.proofs.WiresLemmas.{AreLinks-one}
use Rattle.aeth_router.proofs.part.Part.forward.Goals as goal

-- The outgoing links of a router are wires.
pub pass-requires : goal.pass-requires
pass-requires c = rw c.in-Router.is at c.requires

-- So is the output of a stage.
pub pass-requires-in-Stage : goal.pass-requires-in-Stage
pass-requires-in-Stage c =
    AreLinks-one c.in-Stage.stage.output.0 (length c.args.onward.now)
    (rw c.in-Stage.is at c.requires)
