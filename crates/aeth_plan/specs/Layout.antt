-- Where the lines of a plan text stand. Lines count from 1.
-- This project's own.
use Rattle.std.proofs.Common.{ℕ, List, length}
use Rattle.aeth_text.specs.Order.{line_after}

-- The line of the first seat, behind the line of the plan.
abbrev pub first_seat_line : ℕ
first_seat_line = 2

-- The line of the first grant, behind the lines of these seats.
abbrev pub first_grant_line : {X : Type 0} → List X → ℕ
first_grant_line seats = line_after first_seat_line (length seats)
