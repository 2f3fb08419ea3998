use Rattle.std.proofs.Common.{◌∙◌, ◌-◌, All, List, ap, drop, fold, subst, sym, slice_range}
use Rattle.std.proofs.lemmas.List.{Elements.All-drop, Elements.All-take, Folds.fold-map}
use Rattle.aeth_base.proofs.Members.{All-from_map}
use Rattle.aeth_router.specs.declared.{part.Part.Part, router_row.RouterRow.RouterRow}
use Rattle.aeth_components.specs.Entering.{TakesRows}
use Rattle.aeth_running.specs.Routing.{Entering, Routing, entered_with, later_rows}
use Rattle.aeth_schedule.proofs.Ranges.{range-map}
use Rattle.aeth_network.specs.Routes.{entered_use, entering_of, rows_in}
use Rattle.aeth_network.specs.declared.tables.EnteredUse.{EnteredUse}
use Rattle.aeth_network.proofs.tables.UseTables.enter.Goals as goal

-- The rows of these use cases can enter.
pub enter_uses-requires-clause-takes : goal.enter_uses-requires-clause-takes
enter_uses-requires-clause-takes c =
    let all = c.self.inside in
    let from = c.args.from in
    let to = c.args.to in
    let parts = c.args.components.now.parts in
    let rows_of = rows_in all.tables.items in
    let P = λ (one : EnteredUse). All (TakesRows (rows_of one.entered.0)) parts in
    let takes = λ (entering : Entering). All (TakesRows entering.rows) parts in
    let own : All P all.later.items =
    All-from_map (entering_of rows_of) takes all.later.items
    (subst (λ (routing : Routing). All takes (later_rows routing)) (sym c.self.view_is)
    c.requires.takes) in
    subst (λ (uses : List EnteredUse).
    All (λ one. All (TakesRows (rows_in c.deref.result.now one.entered.0)) parts)
    (slice_range uses from to)) (sym c.deref-2.ensures.value)
    (subst (λ (tables : List (List RouterRow)).
    All (λ one. All (TakesRows (rows_in tables one.entered.0)) parts)
    (slice_range all.later.items from to)) (sym c.deref.ensures.value)
    (All-take P (to - from) (drop from all.later.items) (All-drop P from all.later.items own)))

-- They are those of the rows between the places.
pub returns : goal.returns
returns c =
    let all = c.self.inside in
    let from = c.args.from in
    let to = c.args.to in
    let old = c.args.components.now in
    let rows_of = rows_in all.tables.items in
    c.enter_uses.ensures
    ∙ ap (λ (tables : List (List RouterRow)). record old {
      parts = fold (entered_use (rows_in tables)) old.parts
          (slice_range c.deref-2.result.now from to);
    }) c.deref.ensures.value
    ∙ ap (λ (uses : List EnteredUse). record old {
      parts = fold (entered_use rows_of) old.parts (slice_range uses from to);
    }) c.deref-2.ensures.value
    ∙ ap (λ (parts : List Part). record old { parts = parts })
    (sym (fold-map entered_with (entering_of rows_of) old.parts
    (slice_range all.later.items from to)))
    ∙ ap (λ (enterings : List Entering). record old {
      parts = fold entered_with old.parts enterings;
    }) (sym (range-map (entering_of rows_of) all.later.items from to))
    ∙ ap (λ (routing : Routing). record old {
      parts = fold entered_with old.parts (slice_range (later_rows routing) from to);
    }) c.self.view_is
