use Rattle.std.proofs.Common.{◌-◌, length}
use Rattle.aeth_network.proofs.PullLemmas.{IsPulled}
use Rattle.aeth_network.proofs.next.next_pull.Given as goal

-- So many words the receiver takes since then, by the rows so far.
abbrev pub invariant-rows : goal.invariant-rows
invariant-rows l =
    IsPulled l.number l.channel_state.pull l.takes l.time l.place l.channel_state.go l.since l.at
    l.pull

-- How many rows are left.
abbrev pub decreases-rows : goal.decreases-rows
decreases-rows l = length l.takes - l.at
