use Rattle.std.proofs.Common.{◌*◌, ◌≡◌, ◌≤◌}
use Rattle.aeth_ground_tests.proofs.landings.goes.Given as goal

-- In each cycle no more words are offered, no more are sent and no more land than in all cycles.
abbrev pub invariant-loop-t : goal.invariant-loop-t
invariant-loop-t l =
    (l.alone.time ≡ l.t) × (l.alone.arrived ≤ 100 * l.t) × (l.sent ≤ 100 * l.t)
    × (l.landed ≤ 100 * l.t)
