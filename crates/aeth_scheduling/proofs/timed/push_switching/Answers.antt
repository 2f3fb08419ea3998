use Rattle.std.proofs.Common.{◌≡◌, List, subst, OnOk}
use Rattle.aeth_schedule.specs.Timed.{finishes_at, halts_at, writes_from}
use Rattle.aeth_schedule.specs.declared.timed.Timed.{Timed}
use Rattle.aeth_scheduling.proofs.Within.{three-within}
use Rattle.aeth_scheduling.proofs.timed.push_switching.Goals as goal

-- One behind the other.
pub returns : goal.returns
returns c =
    let close = c.args.close.now in
    subst (λ (list : List Timed). OnOk c.push_writes.result (c.push_writes.new.list ≡ list))
    (three-within c.args.end c.args.list.now (halts_at close.stop c.args.closing.now)
    (finishes_at close.fin c.args.closing.now) (writes_from close.fin c.args.writes.now))
    (rw (c.in_ok-push_closing-2.ensures, c.in_ok-push_closing.ensures) at c.push_writes.ensures)
