use Rattle.std.proofs.Common.{◌∙◌, List, sym, ap, arith}
use Rattle.std.proofs.lemmas.Option.{slice_get_within}
use Rattle.aeth_order.specs.{declared.keys.UnitKeys.UnitKeys, Grid.grid_place, Units.UnitsData}
use Rattle.aeth_order.specs.{Units.without_unit}
use Rattle.aeth_order.proofs.GridLemmas.{units_data}
use Rattle.aeth_order.proofs.DoneLemmas.{marks-done, marks-same, order-done}
use Rattle.aeth_order.proofs.units.Units.done.Goals.{else-unit-lt-MAX_USES-via-then-unit-lt-MAX_USES+else-place-len}
use Rattle.aeth_order.proofs.units.Units.done.Goals.{else-unit-lt-MAX_USES-via-else-unit-lt-MAX_USES}
use Rattle.aeth_order.proofs.units.Units.done.Goals as goal

-- The unit waits no more.
pub invariant_of-self : goal.invariant_of-self
invariant_of-self c =
    let units = c.self.inside in
    order-done units.grid.items units.marks.items units.order.items c.take_out.new.order.items
    c.args.unit c.self.invariant c.if-unit-lt-MAX_USES.true c.take_out.ensures.falls
    c.take_out.ensures.among c.take_out.ensures.others

-- The others wait on.
pub returns-then-place-len : goal.returns-then-place-len
returns-then-place-len c =
    let units = c.self.inside in
    ap (units_data units.cores) (marks-done units.grid.items units.marks.items c.args.unit
    c.self.invariant.table c.if-unit-lt-MAX_USES.true)
    ∙ ap (λ (us : UnitsData). without_unit us c.args.unit) c.self.view_is

-- A unit that isn't in the table doesn't wait.
pub returns-else-unit-lt-MAX_USES : goal.returns-else-unit-lt-MAX_USES
returns-else-unit-lt-MAX_USES c =
    let units = c.self.inside in
    let unit = c.args.unit in
    let grid : List UnitKeys = units.grid.items in
    sym (ap (λ (us : UnitsData). without_unit us unit) (sym c.self.view_is)
    ∙ ap (units_data units.cores) (marks-same grid units.marks.items unit c.self.invariant.table
    (λ a at low. elim c.else-unit-lt-MAX_USES.branch [
      | else-unit-lt-MAX_USES-via-then-unit-lt-MAX_USES+else-place-len w ↦
          let within = slice_get_within grid (grid_place unit) a at in
          absurd (omega (arith, within, w.if-place-len.false, w.len.ensures, units.grid.ok.0))
      | else-unit-lt-MAX_USES-via-else-unit-lt-MAX_USES w ↦
          absurd (omega (arith, low, w.if-unit-lt-MAX_USES.false))
    ]))
    ∙ c.self.view_is)
