use Rattle.std.proofs.Common.{◌∙◌, ◌++◌, ap, arith, sym, flat_map, append_assoc}
use Rattle.std.specs.List.{range_with_len}
use Rattle.aeth_tables.{specs.Buffers.buffers_for, proofs.TextLaws.flat_map-more}
use Rattle.aeth_tables.proofs.buffering.push_connection.Goals as goal

-- One more group.
pub loop-g-preserved : goal.loop-g-preserved
loop-g-preserved c =
    let need = buffers_for c.args.chip.now c.args.app.now c.args.groups.now c.args.plan.now
    c.args.conn.0 in
    let before = c.args.buffers.now.items in
    let so_far = flat_map need (range_with_len 0 c.loop-g.g) in
    c.in_ok-push_unit.ensures ∙ ap (λ xs. xs ++ need c.loop-g.g) c.loop-g.invariant
    ∙ append_assoc before so_far (need c.loop-g.g)
    ∙ ap (λ xs. before ++ xs) (sym (flat_map-more need c.loop-g.g))

-- All groups were seen.
pub returns : goal.returns
returns c =
    let need = buffers_for c.args.chip.now c.args.app.now c.args.groups.now c.args.plan.now
    c.args.conn.0 in
    c.loop-g.invariant
    ∙ ap (λ n. c.args.buffers.now.items ++ flat_map need (range_with_len 0 n))
    (omega (arith, c.count-g-end.ensures.count, c.loop-g-test.false))
