use Rattle.std.proofs.Common.{◌≤◌, ◌-◌, arith}
use Rattle.std.proofs.lemmas.{Bool.false≢true, Option.slice_get-get_or}
use Rattle.aeth_audit.proofs.SessionLemmas.{none-open, open-is}
use Rattle.aeth_audit.proofs.sessions.has_open.Goals as goal

-- No session has gone.
pub returns-then-gone-eq0 : goal.returns-then-gone-eq0
returns-then-gone-eq0 c = (
  λ is. absurd (false≢true is),
  λ has. absurd (none-open c.args.sessions.now c.args.group.0 c.args.cycle c.gone_by-gone.result
      c.gone_by-gone.ensures.point c.if-gone-eq0.true has),
)

-- The last that has gone decides.
pub returns : goal.returns
returns c =
    let all = c.args.sessions.now in
    let gone = c.gone_by-gone.result in
    let some : 1 ≤ gone = omega arith in
    rw c.is_open.ensures (open-is all c.args.group.0 c.args.cycle gone c.gone_by-gone.ensures.point
    _ some (slice_get-get_or all (gone - 1) _ (omega arith)) c.requires.alone)
