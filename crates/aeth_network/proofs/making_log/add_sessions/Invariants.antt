use Rattle.std.proofs.Common.{◌≡◌, take}
use Rattle.aeth_network.specs.{ByNumber.each_by, Records.added_by}
use Rattle.aeth_network.proofs.making_log.add_sessions.Given as goal

-- The sessions so far are added.
abbrev pub invariant-loop-place : goal.invariant-loop-place
invariant-loop-place l = l.channels
    ≡ each_by (added_by l.words l.cycles (take l.place l.session_starts)) 0 l.fn.channels
