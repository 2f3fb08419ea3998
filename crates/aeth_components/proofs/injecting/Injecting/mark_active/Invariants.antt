use Rattle.std.proofs.Common.{◌≡◌, ◌≤◌, ◌<◌, ◌+◌, ◌-◌, ℕ}
use Rattle.aeth_base.specs.Marks.{bit_of}
use Rattle.aeth_components.specs.{Injecting.IsEntered, SlotMarks.MarksMore, SlotMarks.marks_at}
use Rattle.aeth_components.proofs.injecting.Injecting.mark_active.Given as goal

-- The slots of the queue so far are marked.
abbrev pub invariant-places : goal.invariant-places
invariant-places l = record {
  entries : l.self.entries ≡ l.fn.self.entries;
  more : MarksMore l.number l.fn.self.slots l.self.slots;
  least : l.first ≤ l.place;
  most : l.place ≤ l.end;
  own : (slot : ℕ) → l.first + slot < l.place → IsEntered l.fn.self l.number l.queue slot
      → bit_of (marks_at l.self.slots slot) l.number ≡ 1;
}

abbrev pub decreases-places : goal.decreases-places
decreases-places l = l.end - l.place
