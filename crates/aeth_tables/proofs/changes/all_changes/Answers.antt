use Rattle.std.proofs.Common.{ℕ, map, sym, arith}
use Rattle.std.proofs.lemmas.List.FromFn.{map-range_with_len_more}
use Rattle.aeth_tables.specs.{Changes.change_of, Granted.granted_in}
use Rattle.aeth_tables.proofs.changes.all_changes.Goals as goal

-- One more use case.
pub loop-u-preserved : goal.loop-u-preserved
loop-u-preserved c =
    let more = map-range_with_len_more (λ (u : ℕ). map (change_of c.args.chip.now)
    (granted_in c.args.app.now c.args.groups.now c.args.plan.now u)) 0 c.loop-u.u c.loop-u.u
    (omega arith) in
    rw (c.in_ok-push.ensures.items, c.loop-u.invariant, c.in_ok-changes_of.ensures) (sym more)
