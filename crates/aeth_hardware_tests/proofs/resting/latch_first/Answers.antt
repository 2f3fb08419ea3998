use Rattle.std.proofs.Common.{[], ◌∷◌, subst, sym}
use Rattle.aeth_clocked.specs.{Order.AreChosen, Resting.RestsLatch}
use Rattle.aeth_router.specs.Stage.{stage_absorb}
use Rattle.aeth_hardware_tests.proofs.PairLemmas.{AreChosen-first, others-second}
use Rattle.aeth_hardware_tests.proofs.resting.latch_first.Goals as goal

-- The first stage takes a turn.
pub latch_some-requires-clause-chosen : goal.latch_some-requires-clause-chosen
latch_some-requires-clause-chosen g c =
    subst (λ n. AreChosen n (0 ∷ [])) (sym c.requires.two) AreChosen-first

-- The second rests.
pub latch_some-requires-clause-rest : goal.latch_some-requires-clause-rest
latch_some-requires-clause-rest g c =
    others-second (RestsLatch stage_absorb c.args.wires.now) c.args.pair.now c.index-pair-1.result
    c.requires.two (c.rests_latch.ensures.0 c.if-not-rests_latch.false).1
