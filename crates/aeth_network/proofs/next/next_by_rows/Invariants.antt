use Rattle.std.proofs.Common.{◌≤◌, ◌-◌, ℕ, length}
use Rattle.aeth_stimuli.specs.Stimuli.{Take}
use Rattle.aeth_network.specs.Next.{HasAsker, IsAskedBy, IsFirstKnown}
use Rattle.aeth_network.proofs.KnownFirsts.{HasSeen}
use Rattle.aeth_network.proofs.next.next_by_rows.Given as goal

-- No channel takes some earlier by the rows so far.
abbrev pub invariant-rows : goal.invariant-rows
invariant-rows l =
    let has = λ (i : ℕ) (row : Take) (t : ℕ). (l.place ≤ i)
    × IsAskedBy l.channel_states row l.takes l.place t in
    IsFirstKnown (HasSeen has l.takes l.row) (HasAsker l.channel_states l.takes l.place) l.time l.to
    l.next

-- How many rows are left.
abbrev pub decreases-rows : goal.decreases-rows
decreases-rows l = length l.takes - l.row
