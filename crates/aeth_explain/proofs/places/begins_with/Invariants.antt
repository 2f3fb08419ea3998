use Rattle.std.proofs.Common.{◌≡◌, drop}
use Rattle.aeth_explain.specs.Cuts.{begins_with}
use Rattle.aeth_explain.proofs.places.begins_with.Given as goal

-- Whether the path begins with the list is decided by the links that are left.
abbrev pub invariant-loop-i : goal.invariant-loop-i
invariant-loop-i l = begins_with (drop l.i l.front) (drop l.i l.path) ≡ begins_with l.front l.path
