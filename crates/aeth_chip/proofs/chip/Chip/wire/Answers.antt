use Rattle.std.proofs.Common.{◌<◌, ◌+◌, ◌-◌, arith}
use Rattle.aeth_chip.specs.Wires.{wires_of}
use Rattle.aeth_chip.proofs.WireLemmas.{have_delays, wire_at-behind, wire_in_chip, wires_of-few}
use Rattle.aeth_chip.proofs.chip.Chip.wire.Goals.{After-links}
use Rattle.aeth_chip.proofs.chip.Chip.wire.Goals as goal

-- A link is its own first wire.
pub returns-then-place-eq0-clause-below : goal.returns-then-place-eq0-clause-below
returns-then-place-eq0-clause-below c =
    let first = c.if-place-eq0.true in
    let short = c.requires.place in
    wire_in_chip c.args.self.now c.further_before-further.ensures.chip c.args.link 0
    c.requires.link (omega arith)

-- A further wire is one of the chip's.
among_wires : (c : goal.After-links)
    → c.links.result + c.further_before-further.result + (c.args.place - 1)
    < wires_of c.args.self.now.links
among_wires c =
    let chip = c.args.self.now in
    let wire = wire_in_chip chip c.further_before-further.ensures.chip c.args.link c.args.place
    c.requires.link c.requires.place in
    let is = wire_at-behind chip.links c.args.link.0 c.args.place c.if-place-eq0.false in
    let links = c.links.ensures.links in
    let further = c.further_before-further.ensures.further in
    omega arith

pub returns-clause-below : goal.returns-clause-below
returns-clause-below c = among_wires (goal.at.returns-clause-below c).After-links

-- These are few.
pub overflow_add-result : goal.overflow_add-result
overflow_add-result c =
    let chip = c.further_before-further.ensures.chip in
    let wire = among_wires (goal.at.overflow_add-result c).After-links in
    let few = wires_of-few c.args.self.now.links (have_delays c.args.self.now chip) in
    let links = chip.few_links in
    omega arith

pub overflow_add-result-2 : goal.overflow_add-result-2
overflow_add-result-2 c =
    let chip = c.further_before-further.ensures.chip in
    let wire = among_wires (goal.at.overflow_add-result-2 c).After-links in
    let few = wires_of-few c.args.self.now.links (have_delays c.args.self.now chip) in
    let links = chip.few_links in
    omega arith
