use Rattle.std.proofs.Common.{◌≡◌, Some, slice_get}
use Rattle.aeth_chip.proofs.{ReadLemmas.read_at, chip.Chip.link.Goals.After-index}
use Rattle.aeth_chip.proofs.chip.Chip.link.Goals as goal

-- The link stands at its number.
found : (c : goal.After-index)
    → slice_get c.self.inside.links.items c.args.link.0 ≡ Some c.index.result.now
found c =
    read_at c.self.inside.links.items c.args.link.0 c.index.result.now
    (rw (← c.self.view_is) at c.requires) c.index.ensures

pub returns-clause-link : goal.returns-clause-link
returns-clause-link c =
    rw (← c.self.view_is) (found (goal.at.returns-clause-link c).After-index)

-- It is one of a chip.
pub returns-clause-from : goal.returns-clause-from
returns-clause-from c =
    rw (← c.self.view_is) (c.self.invariant.0.links c.args.link.0 c.index.result.now
    (found (goal.at.returns-clause-from c).After-index)).from

pub returns-clause-to : goal.returns-clause-to
returns-clause-to c =
    rw (← c.self.view_is) (c.self.invariant.0.links c.args.link.0 c.index.result.now
    (found (goal.at.returns-clause-to c).After-index)).to

pub returns-clause-delay : goal.returns-clause-delay
returns-clause-delay c =
    let is = c.self.invariant.0.links c.args.link.0 c.index.result.now
    (found (goal.at.returns-clause-delay c).After-index) in
    (is.takes_time, is.within)
