use Rattle.std.proofs.Common.{◌≡◌, ◌<◌, ℕ, length}
use Rattle.std.specs.List.{All}
use Rattle.aeth_base.specs.Marks.{bit_of, room_of}
use Rattle.aeth_components.specs.SlotMarks.{marks_at}
use Rattle.aeth_components.proofs.slot_marks.SlotMarks.none.Given as goal

-- The slots so far have room, and none is marked there.
abbrev pub invariant-loop : goal.invariant-loop
invariant-loop l = record {
  size : length l.marks.items ≡ l.counter;
  room : All (λ marks. l.last < room_of marks) l.marks.items;
  unmarked : (slot number : ℕ) → bit_of (marks_at l.marks.items slot) number ≡ 0;
}
