use Rattle.std.proofs.Common.{length, ap}
use Rattle.aeth_clocked.proofs.WiresLemmas.{AreLinks-one}
use Rattle.aeth_router.specs.Stage.{StageState}
use Rattle.aeth_router.proofs.stage.StageClocked.rests_drive.Goals as goal

-- The output is a wire.
pub is_empty-requires : goal.is_empty-requires
is_empty-requires c =
    rw (ap (λ (stage : StageState). stage.output.0) c.self.view_is)
    (AreLinks-one c.args.self.now.output.0 (length c.args.wires.now) c.requires)
