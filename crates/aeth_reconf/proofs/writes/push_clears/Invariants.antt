use Rattle.std.proofs.Common.{◌≡◌, ◌++◌, ℕ, length, map}
use Rattle.aeth_ni.specs.declared.write.Write.TheVariants.{ClearSlot}
use Rattle.aeth_reconf.proofs.writes.push_clears.Given as goal

-- The slots that are left are still to be cleared.
abbrev pub invariant-slots : goal.invariant-slots
invariant-slots l =
    l.writes.items ++ map (λ (slot : ℕ). ClearSlot l.row.ni slot) l.slots
    ≡ l.fn.writes.items ++ map (λ (slot : ℕ). ClearSlot l.row.ni slot) l.row.slots.slots

-- Fewer are left.
abbrev pub decreases-slots : goal.decreases-slots
decreases-slots l = length l.slots
