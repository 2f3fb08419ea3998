use Rattle.std.proofs.Common.{◌≡◌, drop}
use Rattle.aeth_chip.specs.PathTests.{comes_to}
use Rattle.aeth_check.proofs.routes.comes_to.Given as goal

-- A link that ends there is among those that are left.
abbrev pub invariant-loop-i : goal.invariant-loop-i
invariant-loop-i l =
    comes_to l.chip.links l.router (drop l.i l.path)
    ≡ comes_to l.chip.links l.router (drop l.from l.path)
