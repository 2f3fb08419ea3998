use Rattle.std.{proofs.Common.◌≡◌, proofs.Common.map, specs.List.range_with_len}
use Rattle.aeth_report.specs.Sessions.{sessions_of}
use Rattle.aeth_reconf.proofs.timeline.Timeline.of.Given as goal

-- The sessions of the connections so far.
abbrev pub invariant-loop-c : goal.invariant-loop-c
invariant-loop-c l = l.connections.items
    ≡ map (λ c. sessions_of l.groups l.spans c l.switches) (range_with_len 0 l.c)
