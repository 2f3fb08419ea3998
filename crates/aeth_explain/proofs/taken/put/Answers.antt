use Rattle.std.proofs.Common.{◌<◌, ◌+◌, ◌*◌, ◌∙◌, length, true, sym, ap, arith}
use Rattle.aeth_base.specs.declared.ids.LinkId.{LinkId}
use Rattle.aeth_slots.specs.SlotSet.{Slots, joined}
use Rattle.aeth_group.proofs.ListLemmas.{all_at}
use Rattle.aeth_group.proofs.TableLemmas.{mask_size, row_step, still_table}
use Rattle.aeth_explain.proofs.taken.put.Goals as goal

-- The mask is of the table's size.
pub join-requires : goal.join-requires
join-requires c =
    let links = c.args.chip.now.links in
    let k = c.link-link.result.0 in
    let low : k < length links =
    all_at (λ (k : LinkId). k.0 < length links) _ _ _ c.requires.grant.path c.link-link.ensures in
    let within : c.args.row * length links + k < length c.loop-i.masks =
    omega (arith, low, c.requires.row, c.loop-i.auto.masks) in
    rw c.links.ensures.links (mask_size c.args.chip.now.slots (length links) c.loop-i.masks c.args.row
    k c.index-masks-at.result
    (still_table c.args.chip.now.slots (length links) _ true c.args.masks.now c.loop-i.masks
    c.loop-i.invariant c.requires.table) low within)
    ∙ sym c.requires.grant.slots ∙ sym (ap (λ (s : Slots). s.size) c.rotate-slots.ensures)

-- The row lies within the table.
pub bounds-masks-at-in-loop-i : goal.bounds-masks-at-in-loop-i
bounds-masks-at-in-loop-i c =
    let links = c.args.chip.now.links in
    let low : c.link-link.result.0 < length links =
    all_at (λ (k : LinkId). k.0 < length links) _ _ _ c.requires.grant.path c.link-link.ensures in
    let within : c.args.row * length links + c.link-link.result.0 < length c.loop-i.masks =
    omega (arith, low, c.requires.row, c.loop-i.auto.masks) in
    rw c.links.ensures.links within

-- The mask has the slots.
pub loop-i-preserved : goal.loop-i-preserved
loop-i-preserved c =
    let links = c.args.chip.now.links in
    let k = c.link-link.result.0 in
    let low : k < length links =
    all_at (λ (k : LinkId). k.0 < length links) _ _ _ c.requires.grant.path c.link-link.ensures in
    let within : c.args.row * length links + k < length c.loop-i.masks =
    omega (arith, low, c.requires.row, c.loop-i.auto.masks) in
    let at = rw c.links.ensures.links at c.index-masks-at.is in
    rw c.links.ensures.links (row_step c.args.chip.now.slots c.args.grant.now.slots links c.args.row
    c.args.grant.now.path c.loop-i.i c.link-link.result c.offset.result true c.args.masks.now
    c.loop-i.masks c.index-masks-at.result c.rotate-slots.result c.join.result c.link-link.ensures
    c.offset.ensures.offset low within at c.rotate-slots.ensures
    (rw c.links.ensures.links at c.join.ensures
    ∙ ap (λ m. joined m c.rotate-slots.result) (sym at))
    c.loop-i.invariant)
