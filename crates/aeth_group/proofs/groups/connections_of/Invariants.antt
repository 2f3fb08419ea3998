use Rattle.std.{proofs.Common.◌≡◌, proofs.Common.map, specs.List.range_with_len}
use Rattle.aeth_app.specs.App.{has_connection}
use Rattle.aeth_group.proofs.groups.connections_of.Given as goal

-- The marks of the connections so far.
abbrev pub invariant-loop-c : goal.invariant-loop-c
invariant-loop-c l = l.has.items ≡ map (has_connection l.app.uses l.u.0) (range_with_len 0 l.c)
