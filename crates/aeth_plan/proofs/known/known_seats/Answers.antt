use Rattle.std.proofs.Common.{◌∙◌, ◌+◌, ◌++◌, ◌∷◌, [], ℕ, List, ap, arith, drop, sym}
use Rattle.std.proofs.lemmas.List.{drop_more}
use Rattle.aeth_group.specs.declared.grant.SeatLine.{SeatLine}
use Rattle.aeth_plan.{specs.declared.text.SeatText.SeatText, specs.Layout.first_seat_line}
use Rattle.aeth_plan.{specs.Rules.each, specs.Rules.known_seat, proofs.Fronts.front_more}
use Rattle.aeth_document.proofs.Fronts.{front_none, with_front}
use Rattle.aeth_plan.proofs.known.known_seats.Goals as goal

-- No line was looked at.
pub loop-text-init : goal.loop-text-init
loop-text-init c =
    let all = each (known_seat c.args.chip.now c.args.app.now) first_seat_line c.args.texts.now in
    ap (λ (ss : List SeatLine). with_front ss all) c.in_ok-seats.ensures.items ∙ front_none all

-- One more line gave its seat.
pub loop-text-preserved : goal.loop-text-preserved
loop-text-preserved c =
    let f = known_seat c.args.chip.now c.args.app.now in
    let texts : List SeatText = c.args.texts.now in
    let i = c.loop-text.text-index in
    let rest = drop (i + 1) texts in
    let front : List SeatLine = c.loop-text.seats.items in
    let one : SeatLine = c.in_ok-known_seat.field-0 in
    ap (λ (ss : List SeatLine). with_front ss (each f c.line_after-line.result rest))
    c.in_ok-push.ensures.items
    ∙ ap (λ (n : ℕ). with_front (front ++ one ∷ []) (each f n rest)) c.line_after-line.ensures
    ∙ front_more f c.loop-text.line c.text-item.result rest front one c.in_ok-known_seat.ensures
    ∙ ap (λ (xs : List SeatText). with_front front (each f c.loop-text.line xs))
    (sym (drop_more texts i c.text-item.result
    (omega (arith, c.loop-text-test.true, c.loop-text.auto.text-index-end))
    ∙ ap (λ (x : SeatText). x ∷ rest) (sym c.text-item.is)))
    ∙ c.loop-text.invariant
