use Rattle.std.proofs.Common.{◌∙◌, sym}
use Rattle.aeth_base.proofs.ExtremeLemmas.{ord_max-nat}
use Rattle.aeth_tables.proofs.SpanLaws.{lag-kept, lag-made}
use Rattle.aeth_tables.proofs.switching.lag_in.Goals.{else-not-kept, then-not-kept}
use Rattle.aeth_tables.specs.Changes.{lag_in, made}
use Rattle.aeth_tables.proofs.switching.lag_in.Goals as goal

-- One more change.
pub loop-change-preserved : goal.loop-change-preserved
loop-change-preserved c =
    let groups = c.args.groups.now in
    let changes = c.args.changes.now in
    let total = lag_in (made groups c.args.u.0 c.args.v.0 changes) in
    elim c.if-not-kept.branch [
      | then-not-kept w ↦
          lag-made groups c.args.u.0 c.args.v.0 changes c.loop-change.change-index
          _ c.loop-change.lag c.if-not-kept.lag total c.loop-change-test.true (sym c.kept.ensures ∙ w.if-not-kept.true)
          (w.lag-is ∙ w.max-lag.ensures ∙ ord_max-nat c.loop-change.lag _)
          c.loop-change.invariant
      | else-not-kept w ↦
          lag-kept groups c.args.u.0 c.args.v.0 changes c.loop-change.change-index
          _ c.loop-change.lag c.if-not-kept.lag total c.loop-change-test.true (sym c.kept.ensures ∙ w.if-not-kept.false) w.lag-is
          c.loop-change.invariant
    ]
