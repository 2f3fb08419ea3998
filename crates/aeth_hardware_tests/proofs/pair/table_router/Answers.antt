use Rattle.std.proofs.Common.{refl}
use Rattle.aeth_router.{proofs.RowLemmas.with_table-kept, specs.TableRouter.new_table_router}
use Rattle.aeth_hardware_tests.proofs.RowLemmas.{fit-router}
use Rattle.aeth_hardware_tests.proofs.pair.table_router.Goals as goal

-- The rows are in range of a router that was made.
pub enter-requires : goal.enter-requires
enter-requires c =
    rw c.in-Ok.ensures (fit-router c.args.chip.now c.args.rows.now (c.if-not-do_fit.ensures refl)
    (record { 0 = c.args.number }))

-- Rows change no wires.
pub returns : goal.returns
returns c =
    rw (
      c.enter.ensures,
      c.in-Ok.ensures,
      with_table-kept c.args.rows.now
          (new_table_router (record { 0 = c.args.number }) c.args.chip.now),
    ) refl
