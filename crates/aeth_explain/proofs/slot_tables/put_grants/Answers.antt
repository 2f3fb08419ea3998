use Rattle.std.proofs.Common.{◌≡◌, ◌∙◌, Some, ap, arith, slice_get, sym, take}
use Rattle.std.proofs.lemmas.Option.{slice_get-get_or}
use Rattle.aeth_explain.{specs.SlotTables.is_occupied, proofs.MaskLemmas.occupied-more}
use Rattle.aeth_explain.proofs.slot_tables.put_grants.Goals as goal

-- What is in so far is a table.
pub put_uses-requires-clause-table : goal.put_uses-requires-clause-table
put_uses-requires-clause-table c = (
  is_occupied c.args.chip.now.links c.args.groups.now (take c.loop-i.i c.args.grants.now),
  c.loop-i.invariant.table,
)

-- One grant more is in.
pub loop-i-preserved : goal.loop-i-preserved
loop-i-preserved c =
    let grants = c.args.grants.now in
    let grant = c.index-grants-i.result in
    let at : slice_get grants c.loop-i.i ≡ Some grant =
    slice_get-get_or grants c.loop-i.i grant (omega (arith, c.loop-i-test.true, c.loop-i.auto))
    ∙ ap Some (sym c.index-grants-i.is) in
    let rows = c.put_uses.ensures.count ∙ c.loop-i.invariant.rows in
    record {
      rows = rows;
      table = occupied-more c.args.chip.now.links c.args.groups.now c.args.chip.now.slots grants c.loop-i.i
          grant c.loop-i.masks c.put_uses.new.masks at rows c.put_uses.ensures c.loop-i.invariant.table;
    }
