use Rattle.std.proofs.Common.{◌≡◌, ◌<◌, Some, slice_get, arith, IfSome}
use Rattle.aeth_chip.{specs.declared.node.Node.TheVariants.Router, specs.Limits.max_ports}
use Rattle.aeth_chip.{specs.Nodes.sender_of, specs.Nodes.sends_on, proofs.NodeLemmas.port_at}
use Rattle.aeth_chip.proofs.chip.Chip.port.Goals as goal

-- The number of earlier links of the router is its port, one of few.
port_is : (c : goal.After-port) → (c.port.result < max_ports)
    × IfSome (sender_of c.args.self.now.links c.args.link.0) (λ router.
    slice_get (sends_on (Router router) c.args.self.now.links) c.port.result
    ≡ Some c.args.link.0)
port_is c =
    rw (← c.self.view_is) (port_at _ c.args.link.0 c.port.result c.self.invariant.0
    (rw (← c.self.view_is) at c.requires)
    (c.self.invariant.1.listed.ports.each c.args.link.0 c.port.result c.port.ensures))

pub overflow_cast-result : goal.overflow_cast-result
overflow_cast-result c = let few = (port_is c).0 in omega arith

pub returns-clause-port : goal.returns-clause-port
returns-clause-port c = (port_is c).1

pub returns-clause-few : goal.returns-clause-few
returns-clause-few c = (port_is c).0
