use Rattle.std.proofs.Common.{arith}
use Rattle.aeth_chip.proofs.WireLemmas.{have_delays, wires_of-split}
use Rattle.aeth_components.proofs.ends.count_of.Goals as goal

-- There is a wire for each link.
pub overflow_sub-result : goal.overflow_sub-result
overflow_sub-result c =
    let chip = c.args.chip.now in
    let split = wires_of-split chip.links (have_delays chip c.slots.ensures.chip) in
    omega (arith, split, c.wires.ensures.wires, c.links.ensures.links)

-- Interfaces, routers, and a stage for each further wire.
pub returns-clause-count : goal.returns-clause-count
returns-clause-count c =
    let chip = c.args.chip.now in
    let split = wires_of-split chip.links (have_delays chip c.slots.ensures.chip) in
    omega (
      arith,
      split,
      c.nis.ensures.nis,
      c.routers.ensures.routers,
      c.wires.ensures.wires,
      c.links.ensures.links,
    )
