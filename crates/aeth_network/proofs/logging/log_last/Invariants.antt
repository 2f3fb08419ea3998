use Rattle.std.proofs.Common.{◌≡◌, ◌++◌, drop, take}
use Rattle.aeth_network.specs.{ByNumber.each_by, Logging.last_by}
use Rattle.aeth_network.proofs.logging.log_last.Given as goal

-- The channels so far are logged.
abbrev pub invariant-loop-number : goal.invariant-loop-number
invariant-loop-number l = l.channels
    ≡ each_by (last_by l.cycles l.landings l.gone l.channel_states l.outside) 0
    (take l.number l.fn.channels) ++ drop l.number l.fn.channels
