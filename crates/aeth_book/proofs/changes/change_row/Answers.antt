use Rattle.std.proofs.Common.{◌≡◌, ◌<◌, ◌+◌, ◌*◌, length, arith, ap, ◌∙◌, sym, take}
use Rattle.aeth_base.specs.declared.ids.LinkId.{LinkId}
use Rattle.aeth_chip.{specs.Paths.offset, proofs.OffsetLemmas.offset-more}
use Rattle.aeth_slots.specs.SlotSet.{Slots}
use Rattle.aeth_group.specs.Tables.{changed, hits_row}
use Rattle.aeth_group.proofs.ListLemmas.{all_at}
use Rattle.aeth_group.proofs.TableLemmas.{mask_size, row_step, still_table}
use Rattle.aeth_book.proofs.changes.change_row.Goals as goal

-- The mask is of the table's size.
pub changed-requires : goal.changed-requires
changed-requires c =
    let links = c.args.links.now in
    let low : c.link-link.result.0 < length links =
    all_at (λ (k : LinkId). k.0 < length links) _ _ _ c.requires.path c.link-link.ensures in
    let within : c.args.u * length links + c.link-link.result.0 < length c.loop-i.masks =
    omega (arith, c.requires.row, c.loop-i.auto.masks) in
    mask_size c.args.slots.now.size (length links) c.loop-i.masks c.args.u c.link-link.result.0
    c.index-masks-at.result
    (still_table c.args.slots.now.size (length links)
    (hits_row c.args.slots.now links c.args.u (take c.loop-i.i c.args.path.now)) c.args.put
    c.args.masks.now c.loop-i.masks c.loop-i.invariant.changes c.requires.table) low within
    ∙ sym (ap (λ (s : Slots). s.size) c.rotate.ensures)

-- The row lies within the table.
pub bounds-masks-at-in-loop-i : goal.bounds-masks-at-in-loop-i
bounds-masks-at-in-loop-i c =
    let low = all_at (λ (k : LinkId). k.0 < length c.args.links.now) _ _ _ c.requires.path
    c.link-link.ensures in
    omega (arith, c.requires.row, c.loop-i.auto.masks)

-- The mask has changed, and the flits go on.
pub loop-i-preserved : goal.loop-i-preserved
loop-i-preserved c =
    let links = c.args.links.now in
    let path = c.args.path.now in
    let k = c.link-link.result in
    let low : k.0 < length links =
    all_at (λ (j : LinkId). j.0 < length links) path c.loop-i.i k c.requires.path
    c.link-link.ensures in
    let more : offset links path (c.loop-i.i + 1) ≡ c.loop-i.after + c.delay-after.result =
    omega (
      arith,
      offset-more links path c.loop-i.i k c.link-link.ensures,
      c.loop-i.invariant.after,
      c.delay-after.ensures.delay,
    ) in
    record {
      after = sym more;
      bound = omega (arith, c.loop-i.invariant.bound, c.delay-after.ensures.within);
      changes =
          row_step c.args.slots.now.size c.args.slots.now links c.args.u path c.loop-i.i k c.loop-i.after c.args.put
          c.args.masks.now c.loop-i.masks c.index-masks-at.result c.rotate.result c.changed.result
          c.link-link.ensures c.loop-i.invariant.after low
          (omega (arith, c.requires.row, c.loop-i.auto.masks)) c.index-masks-at.is c.rotate.ensures
          (c.changed.ensures
          ∙ ap (λ m. changed c.args.put m c.rotate.result) (sym c.index-masks-at.is))
          c.loop-i.invariant.changes;
    }
