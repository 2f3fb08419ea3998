use Rattle.std.proofs.Common.{sym}
use Rattle.aeth_chip.proofs.NodeLemmas.{sender_of-found}
use Rattle.aeth_chip.proofs.chip.Chip.exit.Goals as goal

-- The router sends on the links of its list.
pub returns-in-Some-clause-sender : goal.returns-in-Some-clause-sender
returns-in-Some-clause-sender c =
    sender_of-found c.args.self.now.links c.args.router c.args.port c.in-Some.link.0
    (sym c.in-Some.ensures)
