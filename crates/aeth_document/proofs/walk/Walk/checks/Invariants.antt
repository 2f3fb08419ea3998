use Rattle.std.proofs.Common.{◌≡◌, drop}
use Rattle.aeth_document.specs.Walks.{walked}
use Rattle.aeth_document.proofs.walk.Walk.checks.Given as goal

abbrev pub invariant-loop-check : goal.invariant-loop-check
invariant-loop-check l =
    walked l.walk (drop l.check-index l.checks) ≡ walked l.fn.self l.checks
