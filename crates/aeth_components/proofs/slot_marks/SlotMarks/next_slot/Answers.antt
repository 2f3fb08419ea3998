use Rattle.std.proofs.Common.{arith}
use Rattle.aeth_components.proofs.slot_marks.SlotMarks.next_slot.Goals as goal

-- One in which a number is marked is marked.
pub returns-clause-none : goal.returns-clause-none
returns-clause-none c = λ slot number over below bit.
    let one = c.self.invariant.filled slot number (rw c.self.view_is bit) in
    let none = c.next.ensures.none slot over below in
    absurd (omega (arith, one, none))
