use Rattle.std.proofs.Common.{length, ap}
use Rattle.aeth_clocked.proofs.WiresLemmas.{AreLinks-one}
use Rattle.aeth_router.specs.Stage.{StageState}
use Rattle.aeth_router.proofs.stage.StageClocked.rests_latch.Goals as goal

-- The input is a wire.
pub is_empty-requires : goal.is_empty-requires
is_empty-requires c =
    rw (ap (λ (stage : StageState). stage.input.0) c.self.view_is)
    (AreLinks-one c.args.self.now.input.0 (length c.args.wires.now) c.requires)
