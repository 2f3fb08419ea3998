use Rattle.aeth_tables.proofs.PortLaws.{port_is}
use Rattle.aeth_tables.proofs.route.port_of.Goals as goal

-- The router sends on a link through one port.
pub returns-clause-port : goal.returns-clause-port
returns-clause-port c =
    port_is c.args.chip.now c.args.link c.port.result c.requires.chip c.requires.sent
    c.port.ensures.port
