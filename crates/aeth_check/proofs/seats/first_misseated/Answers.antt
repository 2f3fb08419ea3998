use Rattle.std.proofs.Common.{List, Some, sym, ap, ◌∙◌}
use Rattle.aeth_group.specs.declared.grant.SeatLine.{SeatLine}
use Rattle.aeth_check.specs.Seats.{is_misseated}
use Rattle.aeth_check.proofs.Walks.{misseated_here, misseated_on}
use Rattle.aeth_check.proofs.seats.first_misseated.Goals as goal

-- This core is seated elsewhere.
pub returns-then-is_misseated : goal.returns-then-is_misseated
returns-then-is_misseated c =
    ap (λ n. Some n) c.seat_line.ensures
    ∙ misseated_here c.args.seats.now c.args.app.now.cores c.loop-number.number c.core.result _
    c.core.ensures
    (ap (λ (seats : List SeatLine). is_misseated seats (record { 0 = c.loop-number.number })
    c.core.result) (sym c.requires) ∙ sym c.is_misseated.ensures ∙ c.if-is_misseated.true)
    c.loop-number.invariant

-- This one isn't.
pub loop-number-preserved : goal.loop-number-preserved
loop-number-preserved c =
    misseated_on c.args.seats.now c.args.app.now.cores c.loop-number.number c.core.result _
    c.core.ensures
    (ap (λ (seats : List SeatLine). is_misseated seats (record { 0 = c.loop-number.number })
    c.core.result) (sym c.requires) ∙ sym c.is_misseated.ensures ∙ c.if-is_misseated.false)
    c.loop-number.invariant
