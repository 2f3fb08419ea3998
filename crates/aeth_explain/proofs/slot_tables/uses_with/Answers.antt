use Rattle.std.proofs.Common.{◌∙◌, ◌++◌, ◌∷◌, [], ap, filter, sym}
use Rattle.std.specs.List.{range_with_len}
use Rattle.aeth_book.proofs.FilterLemmas.{filter-push, filter-skip}
use Rattle.aeth_group.specs.Members.{has_unit}
use Rattle.aeth_explain.proofs.MaskLemmas.{range-next}
use Rattle.aeth_explain.proofs.slot_tables.uses_with.Goals.{then-has_unit+in_ok-push, else-has_unit}
use Rattle.aeth_explain.proofs.slot_tables.uses_with.Goals as goal

-- One use case more.
pub loop-u-preserved : goal.loop-u-preserved
loop-u-preserved c =
    let has = has_unit c.args.groups.now c.args.unit in
    let so_far = range_with_len 0 c.loop-u.u in
    elim c.if-has_unit.branch [
      | then-has_unit+in_ok-push w ↦ rw w.uses-is (
          w.in_ok-push.ensures.items
          ∙ ap (λ us. us ++ c.loop-u.u ∷ []) c.loop-u.invariant
          ∙ sym (filter-push has so_far c.loop-u.u (sym c.has_unit.ensures ∙ w.if-has_unit.true))
          ∙ ap (filter has) (sym (range-next c.loop-u.u)))
      | else-has_unit w ↦ rw w.uses-is (
          c.loop-u.invariant
          ∙ sym (filter-skip has so_far c.loop-u.u (sym c.has_unit.ensures ∙ w.if-has_unit.false))
          ∙ ap (filter has) (sym (range-next c.loop-u.u)))
    ]
