use Rattle.std.proofs.Common.{◌≡◌, ◌≤◌, ◌<◌, ℕ, None, length, slice_get}
use Rattle.aeth_router.specs.{Forwarding.wire_for, Traffic.named_ports}
use Rattle.aeth_router.proofs.forwarding.links_of_ports.Given as goal

-- The ports so far have their links, and no other has one.
abbrev pub invariant-loop-port : goal.invariant-loop-port
invariant-loop-port l = record {
  size : length l.wires ≡ named_ports;
  at : (port : ℕ) → port < l.port → wire_for l.wires port ≡ slice_get l.links port;
  rest : (port : ℕ) → l.port ≤ port → wire_for l.wires port ≡ None;
}
