use Rattle.std.proofs.Common.{◌≡◌, ◌<◌, ◌∙◌, All, List, ap, length, subst, sym}
use Rattle.aeth_router.specs.declared.router_row.RouterRow.{RouterRow}
use Rattle.aeth_components.specs.Entering.{TakesRows, with_rows}
use Rattle.aeth_running.specs.Routing.{Routing, entered_first, first_rows}
use Rattle.aeth_network.specs.Routes.{rows_in}
use Rattle.aeth_network.proofs.tables.UseTables.enter_first.Goals as goal

-- There are rows of the first use case.
pub rows_of-requires : goal.rows_of-requires
rows_of-requires c =
    subst (λ (all : List (List RouterRow)). c.self.inside.first.0 < length all)
    (sym c.deref.ensures.value) c.self.invariant.0

-- They are the first ones.
rows-are : (c : goal.After-rows_of) → c.rows_of.result.now ≡ first_rows c.args.self.now
rows-are c =
    c.rows_of.ensures
    ∙ ap (λ (all : List (List RouterRow)). rows_in all c.self.inside.first.0) c.deref.ensures.value
    ∙ ap first_rows c.self.view_is

pub enter-requires : goal.enter-requires
enter-requires c =
    subst (λ (rows : List RouterRow). All (TakesRows rows) c.args.components.now.parts)
    (sym (rows-are c)) c.requires

pub returns : goal.returns
returns c =
    let old = c.args.components.now in
    c.enter.ensures
    ∙ ap (λ (rows : List RouterRow). record old { parts = with_rows rows old.parts })
    (c.rows_of.ensures
    ∙ ap (λ (all : List (List RouterRow)). rows_in all c.self.inside.first.0) c.deref.ensures.value)
    ∙ ap (λ (routing : Routing). record old { parts = entered_first routing old.parts })
    c.self.view_is
