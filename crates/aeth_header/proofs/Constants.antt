-- The code's constants are the numbers of the layout.
use Rattle.std.proofs.Common.{◌≡◌, refl}
use Rattle.aeth_header.specs.Layout as layout
use Rattle.aeth_header.specs.declared.header.TheConstants as constants

record AreTheLayout : Type 0 where
  route_ports : constants.ROUTE_PORTS ≡ layout.route_ports
  port_bits : constants.PORT_BITS ≡ layout.port_bits
  route_bits : constants.ROUTE_BITS ≡ layout.route_bits
  queue_bits : constants.QUEUE_BITS ≡ layout.queue_bits
  queue_shift : constants.QUEUE_SHIFT ≡ layout.queue_shift
  credits_bits : constants.CREDITS_BITS ≡ layout.credits_bits
  credits_shift : constants.CREDITS_SHIFT ≡ layout.credits_shift
  count_bits : constants.COUNT_BITS ≡ layout.count_bits
  count_shift : constants.COUNT_SHIFT ≡ layout.count_shift

constants_are_the_layout : AreTheLayout
constants_are_the_layout = record {
  route_ports = refl;
  port_bits = refl;
  route_bits = refl;
  queue_bits = refl;
  queue_shift = refl;
  credits_bits = refl;
  credits_shift = refl;
  count_bits = refl;
  count_shift = refl;
}
