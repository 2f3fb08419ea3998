use Rattle.std.proofs.Common.{◌≡◌, ◌∙◌, List, ap, filter, true}
use Rattle.std.proofs.lemmas.List.Elements.{All-filter}
use Rattle.aeth_base.specs.declared.ids.RouterId.{RouterId}
use Rattle.aeth_router.specs.{Rows.IsRowFor, Rows.is_for, Rows.with_table}
use Rattle.aeth_router.specs.{TableRouter.TableRouterState, declared.router_row.RouterRow.RouterRow}
use Rattle.aeth_router.proofs.RowOrder.{with_table-own}
use Rattle.aeth_router.proofs.table_router.TableRouter.enter_ordered.Goals as goal

-- The rows that enter are its own.
own-rows : (c : goal.After-rows_of) → c.rows_of.result.now
    ≡ filter (is_for c.args.self.now.number) c.args.rows.now
own-rows c =
    c.rows_of.ensures
    ∙ ap (λ (number : RouterId). filter (is_for number) c.args.rows.now)
    (ap (λ (router : TableRouterState). router.number) c.enter.view_is)

-- They are in range.
pub enter-requires : goal.enter-requires
enter-requires c =
    let router = c.args.self.now in
    rw (own-rows c) (All-filter (is_for router.number)
    (λ row. is_for router.number row ≡ true → IsRowFor router row) c.args.rows.now c.requires.rows)

-- With them all that are its own have entered.
pub returns : goal.returns
returns c =
    let router = c.args.self.now in
    let rows = c.rows_of.ensures
    ∙ ap (λ (number : RouterId). filter (is_for number) c.args.rows.now)
    (ap (λ (one : TableRouterState). one.number) c.enter.view_is) in
    c.enter-2.ensures ∙ ap (λ (list : List RouterRow). with_table list router) rows
    ∙ with_table-own c.args.rows.now router
