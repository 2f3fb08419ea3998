use Rattle.std.proofs.Common.{◌≡◌, ◌<◌, ◌+◌, ◌*◌, ◌++◌, ◌∙◌, ℕ, Option, length, ap, arith, flat_map}
use Rattle.std.proofs.lemmas.Option.{get_or_from_slice_get}
use Rattle.std.specs.List.{range_with_len}
use Rattle.aeth_base.specs.declared.ids.LinkId.{LinkId}
use Rattle.aeth_rtable.{specs.Hops.entry_at, specs.Rows.rows_with, proofs.Lists.pushed_more}
use Rattle.aeth_rtable.proofs.rows.push_port.Goals as goal

-- One more slot.
pub loop-slot-preserved : goal.loop-slot-preserved
loop-slot-preserved c = λ hops has.
    let entries = c.args.entries.now in
    let link = c.args.link.0 in
    let slot = c.loop-slot.slot in
    let rows = c.loop-slot.rows.items in
    let place = link * c.args.slots + slot in
    let within : place < length entries = omega (arith, c.requires, c.loop-slot-test.true) in
    let entry = get_or_from_slice_get entries place (entry_at hops link slot) _
    (has link slot c.loop-slot-test.true within) in
    pushed_more (λ (s : ℕ). rows_with c.args.router c.args.port s (entry_at hops link s)) slot
    c.args.rows.now.items rows c.push_entry.new.rows.items (c.loop-slot.invariant hops has)
    (c.in_ok-push_entry.ensures
    ∙ ap (λ (o : Option LinkId). rows ++ rows_with c.args.router c.args.port slot o) entry)

-- All slots.
pub returns : goal.returns
returns c = λ hops has.
    let all : c.loop-slot.slot ≡ c.args.slots =
    omega (arith, c.loop-slot.auto.slot-end, c.loop-slot-test.false) in
    c.loop-slot.invariant hops has
    ∙ ap (λ (n : ℕ). c.args.rows.now.items
    ++ flat_map (λ slot. rows_with c.args.router c.args.port slot (entry_at hops c.args.link.0 slot))
    (range_with_len 0 n)) all
