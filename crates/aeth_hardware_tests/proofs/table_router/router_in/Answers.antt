use Rattle.aeth_chip.proofs.WireLemmas.{have_delays}
use Rattle.aeth_router.proofs.WireLemmas.{AreLinks-entering_wires, AreLinks-outgoing}
use Rattle.aeth_hardware_tests.proofs.table_router.router_in.Goals as goal

-- It receives on wires of the chip.
pub returns-clause-inputs : goal.returns-clause-inputs
returns-clause-inputs c =
    let chip = c.args.chip.now in
    rw c.in_ok-router.ensures
    (AreLinks-entering_wires chip.links (have_delays chip c.slots-slots.ensures.chip)
    (record { 0 = c.args.number }))

-- It sends on wires of the chip.
pub returns-clause-outputs : goal.returns-clause-outputs
returns-clause-outputs c =
    let chip = c.args.chip.now in
    rw c.in_ok-router.ensures
    (AreLinks-outgoing chip.links (have_delays chip c.slots-slots.ensures.chip)
    (record { 0 = c.args.number }))
