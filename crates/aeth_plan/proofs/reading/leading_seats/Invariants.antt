use Rattle.std.proofs.Common.{◌≡◌, ◌++◌, length}
use Rattle.aeth_text.specs.Grammar.{behind, leading, lines_of, rest_of}
use Rattle.aeth_plan.specs.Lines.{seat_in}
use Rattle.aeth_plan.proofs.reading.leading_seats.Given as goal

-- The seats so far and those of the lines that are left are those of all lines.
abbrev pub invariant-lines : goal.invariant-lines
invariant-lines l = record {
  seats : l.seats.items ++ leading seat_in (lines_of l.left) ≡ leading seat_in (lines_of l.text);
  lines : behind seat_in (lines_of l.left) ≡ behind seat_in (lines_of l.text);
  rest : rest_of l.left ≡ rest_of l.text;
}

abbrev pub decreases-lines : goal.decreases-lines
decreases-lines l = length l.left
