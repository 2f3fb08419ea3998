use Rattle.std.proofs.Common.{◌∙◌, ◌++◌, ◌∷◌, [], ap, arith, length, length-append, map, sym}
use Rattle.std.proofs.lemmas.List.{map-append}
use Rattle.std.specs.List.{range_with_len}
use Rattle.aeth_explain.specs.SlotTables.{taken_by}
use Rattle.aeth_explain.proofs.MaskLemmas.{range-next, row-table}
use Rattle.aeth_explain.proofs.slot_tables.joined.Goals as goal

-- One link more.
pub loop-link-preserved : goal.loop-link-preserved
loop-link-preserved c = record {
  count = omega (
    arith,
    c.loop-link.invariant.count,
    ap length c.in_ok-push.ensures.items,
    length-append c.loop-link.joined.items (c.joined_at.result ∷ []),
  );
  masks = λ test table.
      let mask = taken_by c.args.chip.now.slots test c.args.uses.now in
      let link = c.loop-link.link in
      let so_far = range_with_len 0 link in
      c.in_ok-push.ensures.items
      ∙ ap (λ ms. ms ++ c.joined_at.result ∷ []) (c.loop-link.invariant.masks test table)
      ∙ ap (λ m. map mask so_far ++ m ∷ []) (c.joined_at.ensures test table)
      ∙ sym (ap (map mask) (range-next link)
      ∙ map-append mask so_far (link ∷ []));
}

-- Each link has one.
pub returns-clause-table : goal.returns-clause-table
returns-clause-table c test table =
    row-table c.args.chip.now.slots (length c.args.chip.now.links) test c.args.uses.now
    c.loop-link.joined.items c.loop-link.link
    (omega (arith, c.loop-link-test.false, c.loop-link.auto, c.links-link-end.ensures.links))
    (c.loop-link.invariant.masks test table)
