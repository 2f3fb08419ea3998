use Rattle.std.proofs.Common.{◌-◌, length}
use Rattle.aeth_network.specs.Next.{HasAsker, IsFirstKnown}
use Rattle.aeth_network.proofs.{AskerLemmas.IsTaker, KnownFirsts.HasSeen}
use Rattle.aeth_network.proofs.next.next_by_pulls.Given as goal

-- No channel so far takes some earlier of those that do as they stand.
abbrev pub invariant-channels : goal.invariant-channels
invariant-channels l = IsFirstKnown (HasSeen (IsTaker l.takes l.place) l.channel_states l.number)
    (HasAsker l.channel_states l.takes l.place) l.time l.to l.next

-- How many are left.
abbrev pub decreases-channels : goal.decreases-channels
decreases-channels l = length l.channel_states - l.number
