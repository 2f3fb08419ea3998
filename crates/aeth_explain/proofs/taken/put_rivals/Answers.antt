use Rattle.std.proofs.Common.{◌≡◌, ◌∙◌, Some, slice_get, take, ap, sym, arith}
use Rattle.std.proofs.lemmas.Option.{slice_get-get_or}
use Rattle.aeth_explain.specs.Masks.{is_held}
use Rattle.aeth_explain.proofs.MaskLemmas.{held-more, held-same}
use Rattle.aeth_explain.proofs.taken.put_rivals.Goals.{then-is_rival, else-is_rival}
use Rattle.aeth_explain.proofs.taken.put_rivals.Goals as goal

-- What has been put in so far is a table.
pub put-requires-clause-table : goal.put-requires-clause-table
put-requires-clause-table c = (
  is_held c.args.chip.now.links c.args.groups.now c.args.unit (take c.loop-i.i c.args.grants.now),
  c.loop-i.invariant.table,
)

-- The masks have the slots of a grant that is a rival.
pub loop-i-preserved : goal.loop-i-preserved
loop-i-preserved c =
    let links = c.args.chip.now.links in
    let grants = c.args.grants.now in
    let grant = c.index-grants-i.result in
    let at : slice_get grants c.loop-i.i ≡ Some grant =
    slice_get-get_or grants c.loop-i.i grant (omega (arith, c.loop-i-test.true, c.loop-i.auto))
    ∙ ap Some (sym c.index-grants-i.is) in
    elim c.if-is_rival.branch [
      | then-is_rival w ↦ rw w.masks-is (record {
        count = w.put.ensures.count ∙ c.loop-i.invariant.count;
        table = held-more links c.args.groups.now c.args.unit c.args.chip.now.slots grants
            c.loop-i.i grant c.loop-i.masks w.put.new.masks at
            (sym c.is_rival.ensures ∙ w.if-is_rival.true)
            (w.put.ensures.count ∙ c.loop-i.invariant.count) w.put.ensures
            c.loop-i.invariant.table;
      })
      | else-is_rival w ↦ rw w.masks-is (record {
        count = c.loop-i.invariant.count;
        table = held-same links c.args.groups.now c.args.unit c.args.chip.now.slots grants
            c.loop-i.i grant c.loop-i.masks at (sym c.is_rival.ensures ∙ w.if-is_rival.false)
            c.loop-i.invariant.table;
      })
    ]
