use Rattle.std.proofs.Common.{◌≡◌, drop}
use Rattle.aeth_plan.specs.{Layout.first_seat_line, Rules.each, Rules.known_seat}
use Rattle.aeth_document.proofs.Fronts.{with_front}
use Rattle.aeth_plan.proofs.known.known_seats.Given as goal

-- The seats so far and those of the lines that are left.
abbrev pub invariant-loop-text : goal.invariant-loop-text
invariant-loop-text l =
    with_front l.seats.items
    (each (known_seat l.chip l.app) l.line (drop l.text-index l.texts))
    ≡ each (known_seat l.chip l.app) first_seat_line l.texts
