use Rattle.std.proofs.Common.{arith}
use Rattle.aeth_chip.proofs.WireLemmas.{have_delays, wires_of-few}
use Rattle.aeth_chip.proofs.chip.Chip.wires.Goals as goal

-- There are few links, and each has few wires.
pub returns-clause-most : goal.returns-clause-most
returns-clause-most c =
    let chip = c.wire_count.ensures.chip in
    let is = c.wire_count.ensures.wires in
    let few = wires_of-few c.args.self.now.links (have_delays c.args.self.now chip) in
    let links = chip.few_links in
    omega arith
