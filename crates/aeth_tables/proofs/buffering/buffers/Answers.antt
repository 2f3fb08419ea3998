use Rattle.std.proofs.Common.{◌∙◌, ◌++◌, ap, arith, sym, flat_map}
use Rattle.std.specs.List.{range_with_len}
use Rattle.aeth_tables.specs.Buffers.{buffers_in, buffers_of}
use Rattle.aeth_tables.proofs.TextLaws.{flat_map-more}
use Rattle.aeth_plan.proofs.DesignLaws.{design_of}
use Rattle.aeth_tables.proofs.buffering.buffers.Goals as goal

-- The plan is one of the chip and the application.
pub push_connection-requires-clause-design : goal.push_connection-requires-clause-design
push_connection-requires-clause-design c =
    design_of c.args.chip.now c.args.app.now c.args.groups.now c.args.plan.now
    c.slots-chip_slots.ensures.chip c.slots-app_slots.ensures.app c.requires.groups
    c.requires.plan c.requires.accepted

-- One more connection.
pub loop-c-preserved : goal.loop-c-preserved
loop-c-preserved c =
    let need = buffers_in c.args.chip.now c.args.app.now c.args.groups.now c.args.plan.now in
    c.in_ok-push_connection.ensures ∙ ap (λ xs. xs ++ need c.loop-c.c) c.loop-c.invariant
    ∙ sym (flat_map-more need c.loop-c.c)

-- All connections were seen.
pub returns : goal.returns
unfolding buffers_of
returns c =
    let need = buffers_in c.args.chip.now c.args.app.now c.args.groups.now c.args.plan.now in
    c.loop-c.invariant
    ∙ ap (λ n. flat_map need (range_with_len 0 n))
    (omega (arith, c.connections-c-end.ensures.connections, c.loop-c-test.false))
