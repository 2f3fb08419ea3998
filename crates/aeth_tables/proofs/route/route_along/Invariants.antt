use Rattle.std.proofs.Common.{◌≡◌, ◌≤◌, drop, length, map, min}
use Rattle.aeth_header.specs.Route.{route_of}
use Rattle.aeth_tables.specs.Routes.{port_of}
use Rattle.aeth_tables.proofs.route.route_along.Given as goal

-- The route of the links from this place on.
abbrev pub invariant-loop-place : goal.invariant-loop-place
invariant-loop-place l = record {
  route : l.route ≡ route_of (map (port_of l.chip.links) (drop l.place l.path));
  some : min 1 (length l.path) ≤ l.place;
}
