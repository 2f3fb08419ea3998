use Rattle.std.proofs.Common.{◌∙◌, ◌-◌, arith, drop, length, take}
use Rattle.aeth_scheduling.proofs.LineLemmas.{pair-first, two-first}
use Rattle.aeth_scheduling.proofs.lines.push_lines.Goals as goal

-- The lines of one connection more.
pub pairs-preserved : goal.pairs-preserved
pairs-preserved c =
    let rows = c.pairs.rows_left.now in
    let shapes = c.pairs.shapes_left.now in
    let rows_are = two-first rows c.fwd-item.result c.back-item.result (omega (arith, c.in-len2-up.len_at_least)) c.fwd-item.is
    c.back-item.is in
    let shapes_are = two-first shapes c.fwd_shape-item.result c.back_shape-item.result (omega (arith, c.in-len2-up.len_at_least))
    c.fwd_shape-item.is c.back_shape-item.is in
    rw (
      c.in_ok-push-2.ensures.items,
      c.in_ok-push.ensures.items,
      c.paired.ensures,
      c.paired-in-len2-up.ensures,
    )
    (pair-first c.pairs.list.items rows (take (length rows - 2) (drop 2 rows)) shapes
    (take (length shapes - 2) (drop 2 shapes)) c.fwd-item.result c.back-item.result
    c.fwd_shape-item.result c.back_shape-item.result rows_are shapes_are
    ∙ c.pairs.invariant)
