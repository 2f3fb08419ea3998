use Rattle.std.proofs.Common.{◌<◌, ◌+◌, ◌*◌, ◌∙◌, length, true, refl, sym, ap, arith}
use Rattle.std.proofs.lemmas.Option.{slice_get_within}
use Rattle.aeth_base.specs.declared.ids.LinkId.{LinkId}
use Rattle.aeth_chip.specs.Paths.{offset}
use Rattle.aeth_slots.specs.SlotSet.{Slots, joined}
use Rattle.aeth_group.proofs.ListLemmas.{all_at}
use Rattle.aeth_group.proofs.TableLemmas.{mask_size, row_step, still_table}
use Rattle.aeth_check.proofs.TakenLaws.{taken-set, taken-within}
use Rattle.aeth_check.proofs.masks.put_row.Goals as goal

-- The link has a set.
pub taken_at-set-requires : goal.taken_at-set-requires
taken_at-set-requires c =
    taken-within c.args.chip.now.links c.args.grant.now c.args.sets.now c.requires.sets c.loop-i.i
    (slice_get_within c.args.grant.now.path c.loop-i.i c.link-link.result c.link-link.ensures)

-- The mask is of the table's size.
pub join-requires : goal.join-requires
join-requires c =
    let links = c.args.chip.now.links in
    let low : c.link-link.result.0 < length links =
    all_at (λ (k : LinkId). k.0 < length links) _ _ _ c.requires.grant.links
    c.link-link.ensures in
    let within : c.args.u * length links + c.link-link.result.0 < length c.loop-i.masks =
    omega (arith, c.requires.row, c.loop-i.auto.masks) in
    let is = taken-set links c.args.grant.now c.args.sets.now c.requires.sets c.loop-i.i
    c.taken_at-set.result
    (slice_get_within c.args.grant.now.path c.loop-i.i c.link-link.result c.link-link.ensures)
    c.taken_at-set.ensures in
    rw c.links.ensures.links (mask_size c.args.chip.now.slots (length links) c.loop-i.masks c.args.u
    c.link-link.result.0 c.index-masks-at.result
    (still_table c.args.chip.now.slots (length links) _ true c.args.masks.now c.loop-i.masks
    c.loop-i.invariant c.requires.table) low within)
    ∙ sym c.requires.grant.size ∙ sym (ap (λ (s : Slots). s.size) is)

-- The row lies within the table.
pub bounds-masks-at-in-loop-i : goal.bounds-masks-at-in-loop-i
bounds-masks-at-in-loop-i c =
    let links = c.args.chip.now.links in
    let low : c.link-link.result.0 < length links =
    all_at (λ (k : LinkId). k.0 < length links) _ _ _ c.requires.grant.links
    c.link-link.ensures in
    let within : c.args.u * length links + c.link-link.result.0 < length c.loop-i.masks =
    omega (arith, c.requires.row, c.loop-i.auto.masks) in
    rw c.links.ensures.links within

-- The mask has the slots.
pub loop-i-preserved : goal.loop-i-preserved
loop-i-preserved c =
    let links = c.args.chip.now.links in
    let low : c.link-link.result.0 < length links =
    all_at (λ (k : LinkId). k.0 < length links) _ _ _ c.requires.grant.links
    c.link-link.ensures in
    let within : c.args.u * length links + c.link-link.result.0 < length c.loop-i.masks =
    omega (arith, c.requires.row, c.loop-i.auto.masks) in
    let at = rw c.links.ensures.links at c.index-masks-at.is in
    let is = taken-set links c.args.grant.now c.args.sets.now c.requires.sets c.loop-i.i
    c.taken_at-set.result
    (slice_get_within c.args.grant.now.path c.loop-i.i c.link-link.result c.link-link.ensures)
    c.taken_at-set.ensures in
    rw c.links.ensures.links (row_step c.args.chip.now.slots c.args.grant.now.slots links c.args.u
    c.args.grant.now.path c.loop-i.i c.link-link.result
    (offset links c.args.grant.now.path c.loop-i.i) true c.args.masks.now
    c.loop-i.masks c.index-masks-at.result c.taken_at-set.result c.join.result
    c.link-link.ensures refl low within at is
    (rw c.links.ensures.links at c.join.ensures
    ∙ ap (λ m. joined m c.taken_at-set.result) (sym at)) c.loop-i.invariant)
