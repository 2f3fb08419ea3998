use Rattle.std.proofs.Common.{◌≡◌, ◌<◌, ℕ, true}
use Rattle.aeth_router.specs.Single.{is_sent_by}
use Rattle.aeth_router.proofs.table_router.TableRouter.is_alone.Given as goal

-- None of the ports so far but this one sends on what comes by the wire.
abbrev pub invariant-loop-other : goal.invariant-loop-other
invariant-loop-other l =
    (other : ℕ) → other < l.other → is_sent_by l.self l.slot l.wire.0 other ≡ true → l.port ≡ other
