use Rattle.std.proofs.Common.{◌≡◌, ◌≤◌, ℕ}
use Rattle.aeth_base.specs.Marks.{marked_from}
use Rattle.aeth_components.specs.{First.HasSender, SlotMarks.marks_at}
use Rattle.aeth_components.proofs.sending.does_send.Given as goal

-- None of those so far sends.
abbrev pub invariant-loop-number : goal.invariant-loop-number
invariant-loop-number l = record {
  from : ℕ;
  left : l.number-iterator ≡ marked_from (marks_at l.injecting.slots l.slot) from;
  rest : (sender : HasSender l.parts l.cycle) → from ≤ sender.number;
}
