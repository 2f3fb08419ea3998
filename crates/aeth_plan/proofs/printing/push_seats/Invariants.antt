use Rattle.std.proofs.Common.{◌≡◌, ◌++◌, drop, map}
use Rattle.aeth_plan.specs.{PlanText.seat_words, Spelling.seat_line}
use Rattle.aeth_text.specs.Spelling.{text_of_lines}
use Rattle.aeth_plan.proofs.printing.push_seats.Given as goal

-- The lines that are left are still to be printed.
abbrev pub invariant-loop-seat : goal.invariant-loop-seat
invariant-loop-seat l =
    l.out.items ++ text_of_lines
    (map seat_line (map (seat_words l.chip l.app) (drop l.seat-index l.seats)))
    ≡ l.fn.out.items
    ++ text_of_lines (map seat_line (map (seat_words l.chip l.app) l.seats))
