use Rattle.std.proofs.Common.{◌≡◌, ◌∙◌, Bool, List, length, sym, ap, subst}
use Rattle.std.specs.List.{items_where_true, Sorted.IsPermutation}
use Rattle.aeth_group.{specs.Members.GroupsData, proofs.MemberLemmas.connections-groups_of}
use Rattle.aeth_order.specs.{declared.keys.UnitKeys.UnitKeys, Grid.marks_of}
use Rattle.aeth_order.proofs.GridLemmas.{units_data}
use Rattle.aeth_order.proofs.StartLemmas.{grid-start, grid-units, order-start}
use Rattle.aeth_order.proofs.units.Units.of.Goals as goal

-- The groups are those of the application.
pub marks_of-requires-clause-some : goal.marks_of-requires-clause-some
marks_of-requires-clause-some c =
    c.connections.ensures.connections ∙ sym (ap (λ (g : GroupsData). g.connections) c.requires
    ∙ connections-groups_of c.args.app.now)

-- There is a mark for each place.
pub marked-requires : goal.marked-requires
marked-requires c =
    let app = c.args.app.now in
    let groups = c.args.groups.now in
    ap (λ (ms : List Bool). length ms) (c.deref.ensures.value ∙ c.in_ok-marks.ensures)
    ∙ (grid-start app groups c.slots-slots.ensures.app c.requires).size
    ∙ sym (ap (λ (g : List UnitKeys). length g) (c.deref-2.ensures.value ∙ c.in_ok-grid.ensures))

-- All units wait, in their own order.
pub invariant_of-result : goal.invariant_of-result
invariant_of-result c =
    let app = c.args.app.now in
    let groups = c.args.groups.now in
    let grid : List UnitKeys = c.in_ok-grid.grid.items in
    let marks : List Bool = c.in_ok-marks.marks.items in
    let order : List UnitKeys = c.in_ok-order.order.items in
    let waiting : c.in_ok-waiting.waiting.items ≡ items_where_true marks grid =
    c.in_ok-waiting.ensures
    ∙ ap (λ (ms : List Bool). items_where_true ms c.deref-2.result.now) c.deref.ensures.value
    ∙ ap (λ (g : List UnitKeys). items_where_true marks g) c.deref-2.ensures.value in
    order-start grid marks order
    (rw (c.in_ok-grid.ensures, c.in_ok-marks.ensures)
    (grid-start app groups c.slots-slots.ensures.app c.requires))
    (subst (λ (us : List UnitKeys). IsPermutation us order) waiting c.in_ok-order.ensures.same)
    c.in_ok-order.ensures.falls

-- They are all units.
pub returns : goal.returns
returns c =
    let app = c.args.app.now in
    let groups = c.args.groups.now in
    ap (λ n. units_data n (items_where_true c.in_ok-marks.marks.items c.in_ok-grid.grid.items))
    c.cores.ensures.cores
    ∙ ap (λ (ms : List Bool). units_data (length app.cores) (items_where_true ms c.in_ok-grid.grid.items))
    c.in_ok-marks.ensures
    ∙ ap (λ (g : List UnitKeys). units_data (length app.cores) (items_where_true (marks_of groups) g))
    c.in_ok-grid.ensures
    ∙ ap (units_data (length app.cores)) (grid-units app groups c.slots-slots.ensures.app c.requires)
