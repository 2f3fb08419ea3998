use Rattle.std.proofs.Common.{◌∙◌, ◌+◌, ◌++◌, ℕ, List, ap, append_assoc, arith, drop, map, sym}
use Rattle.std.proofs.lemmas.List.{drop_more}
use Rattle.aeth_group.specs.declared.grant.SeatLine.{SeatLine}
use Rattle.aeth_plan.specs.{PlanText.seat_words, Spelling.seat_line}
use Rattle.aeth_text.specs.Spelling.{text_of_lines}
use Rattle.aeth_plan.proofs.printing.push_seats.Goals as goal

-- One more line was printed.
pub loop-seat-preserved : goal.loop-seat-preserved
loop-seat-preserved c =
    let seats : List SeatLine = c.args.seats.now in
    let i = c.loop-seat.seat-index in
    let out : List ℕ = c.loop-seat.out.items in
    let lines : List SeatLine → List ℕ =
    λ xs. text_of_lines (map seat_line (map (seat_words c.args.chip.now c.args.app.now) xs)) in
    ap (λ (o : List ℕ). o ++ lines (drop (i + 1) seats)) c.in_ok-push_seat.ensures
    ∙ append_assoc out _ (lines (drop (i + 1) seats))
    ∙ ap (λ (xs : List SeatLine). out ++ lines xs) (sym (drop_more seats i _
    (omega (arith, c.loop-seat-test.true, c.loop-seat.auto.seat-index-end))))
    ∙ c.loop-seat.invariant
