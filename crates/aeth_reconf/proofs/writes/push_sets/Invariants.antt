use Rattle.std.proofs.Common.{◌≡◌, ◌++◌, ℕ, length, map}
use Rattle.aeth_ni.specs.declared.write.Write.TheVariants.{SetSlot}
use Rattle.aeth_reconf.proofs.writes.push_sets.Given as goal

-- The slots that are left are still to be set.
abbrev pub invariant-slots : goal.invariant-slots
invariant-slots l =
    l.writes.items ++ map (λ (slot : ℕ). SetSlot l.row.ni slot l.row.queue) l.slots
    ≡ l.fn.writes.items ++ map (λ (slot : ℕ). SetSlot l.row.ni slot l.row.queue) l.row.slots.slots

-- Fewer are left.
abbrev pub decreases-slots : goal.decreases-slots
decreases-slots l = length l.slots
