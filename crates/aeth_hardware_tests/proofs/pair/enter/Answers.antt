use Rattle.std.proofs.Common.{refl}
use Rattle.aeth_components.proofs.EnteringLemmas.{wirings-entered}
use Rattle.aeth_hardware_tests.proofs.RowLemmas.{fit-parts}
use Rattle.aeth_hardware_tests.proofs.pair.enter.Goals as goal

-- The rows are in range of the routers that were made.
pub enter-requires : goal.enter-requires
enter-requires c =
    rw c.requires (fit-parts c.args.chip.now c.args.rooms.now c.args.rows.now (c.if-not-do_fit.ensures refl))

-- Rows change no wires.
pub returns : goal.returns
returns c = rw c.enter.ensures (wirings-entered c.args.rows.now c.args.pair.now.parts)
