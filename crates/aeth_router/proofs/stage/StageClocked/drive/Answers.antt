use Rattle.std.proofs.Common.{length, ap}
use Rattle.aeth_clocked.proofs.WiresLemmas.{AreLinks-one, Drives-slice_set}
use Rattle.aeth_router.specs.Stage.{StageState}
use Rattle.aeth_router.proofs.stage.StageClocked.drive.Goals as goal

-- The output is a wire.
pub put-requires : goal.put-requires
put-requires c =
    rw (ap (λ (stage : StageState). stage.output.0) c.self.view_is)
    (AreLinks-one c.args.self.now.output.0 (length c.args.wires.now) c.requires)

-- The flit that was held is on the output.
pub returns-clause-wires : goal.returns-clause-wires
returns-clause-wires c =
    let stage = c.args.self.now in
    let output = ap (λ (stage : StageState). stage.output.0) c.self.view_is in
    let held = ap (λ (stage : StageState). stage.held) c.self.view_is in
    rw (c.put.ensures, output, held)
    (Drives-slice_set stage.output.0 (λ wire. stage.held) c.args.wires.now
    (AreLinks-one stage.output.0 (length c.args.wires.now) c.requires))
