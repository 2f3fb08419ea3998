use Rattle.std.proofs.Common.{◌<◌, ◌∙◌, ◌++◌, ◌∷◌, [], Bool, false, List, Vec, Global, take, length}
use Rattle.std.proofs.Common.{get_or, ap, arith, take_all}
use Rattle.std.specs.List.{items_where_true}
use Rattle.aeth_order.specs.{declared.keys.UnitKeys.UnitKeys, Grid.nobody}
use Rattle.aeth_order.proofs.GridLemmas.{marked-no, marked-yes}
use Rattle.aeth_order.proofs.grid.marked.Goals.{then-marks-place+in_ok-push, else-marks-place}
use Rattle.aeth_order.proofs.grid.marked.Goals as goal

-- One more place.
pub loop-place-preserved : goal.loop-place-preserved
loop-place-preserved c =
    let marks : List Bool = c.args.marks.now in
    let grid : List UnitKeys = c.args.grid.now in
    let p = c.loop-place.place in
    let low : p < length marks = omega (arith, c.requires, c.loop-place-test.true) in
    elim c.if-marks-place.branch [
      | then-marks-place+in_ok-push w ↦
          ap (λ (us : Vec UnitKeys Global). us.items) w.units-is
          ∙ w.in_ok-push.ensures.items
          ∙ ap (λ (us : List UnitKeys). us ++ get_or grid p nobody ∷ []) c.loop-place.invariant
          ∙ marked-yes marks grid p false nobody low c.loop-place-test.true w.if-marks-place.true
      | else-marks-place w ↦
          ap (λ (us : Vec UnitKeys Global). us.items) w.units-is
          ∙ c.loop-place.invariant
          ∙ marked-no marks grid p false nobody low c.loop-place-test.true w.if-marks-place.false
    ]

-- All places were seen.
pub returns : goal.returns
returns c =
    let grid : List UnitKeys = c.args.grid.now in
    let p = c.loop-place.place in
    c.loop-place.invariant
    ∙ ap (λ ms. items_where_true ms (take p grid)) (take_all p c.args.marks.now
    (omega (arith, c.requires)))
    ∙ ap (items_where_true c.args.marks.now) (take_all p grid (omega arith))
