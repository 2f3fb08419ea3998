use Rattle.std.proofs.Common.{◌++◌, ◌∙◌, ap, arith, sym, append-nil}
use Rattle.aeth_scheduling.proofs.Within.{writes-late}
use Rattle.aeth_scheduling.proofs.timed.push_writes.Goals as goal

-- None that is left is below the end.
pub returns-then-cycle-from : goal.returns-then-cycle-from
returns-then-cycle-from c =
    let end = c.from.ensures in
    let late = c.if-cycle-from.true in
    sym (append-nil c.writes.list)
    ∙ (ap (λ xs. c.writes.list ++ xs)
    (sym (writes-late c.args.end c.writes.cycle c.writes.rest.now (omega arith)))
    ∙ c.writes.invariant)
