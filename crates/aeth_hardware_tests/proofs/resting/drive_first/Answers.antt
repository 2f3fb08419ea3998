use Rattle.std.proofs.Common.{[], ◌∷◌, subst, sym}
use Rattle.aeth_clocked.specs.{Order.AreChosen, Resting.RestsDrive}
use Rattle.aeth_router.specs.Stage.{stage_after, stage_emit, stage_outputs}
use Rattle.aeth_hardware_tests.proofs.PairLemmas.{AreChosen-first, others-second}
use Rattle.aeth_hardware_tests.proofs.resting.drive_first.Goals as goal

-- The first stage takes a turn.
pub drive_some-requires-clause-chosen : goal.drive_some-requires-clause-chosen
drive_some-requires-clause-chosen g c =
    subst (λ n. AreChosen n (0 ∷ [])) (sym c.requires.two) AreChosen-first

-- The second rests.
pub drive_some-requires-clause-rest : goal.drive_some-requires-clause-rest
drive_some-requires-clause-rest g c =
    others-second (RestsDrive stage_outputs stage_emit stage_after 0 c.args.wires.now)
    c.args.pair.now c.index-pair-1.result c.requires.two
    (c.rests_drive.ensures.0 c.if-not-rests_drive.false)
