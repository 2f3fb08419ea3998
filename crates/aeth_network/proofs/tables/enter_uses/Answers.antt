use Rattle.std.proofs.Common.{All, List, ap, subst, sym, take}
use Rattle.std.specs.List.{slice_index_or}
use Rattle.aeth_router.specs.declared.{part.Part.Part, router_row.RouterRow.RouterRow}
use Rattle.aeth_components.specs.{Components.ComponentsState, Entering.TakesRows}
use Rattle.aeth_network.specs.{Routes.rows_in, declared.tables.EnteredUse.EnteredUse}
use Rattle.aeth_network.proofs.Enterings.{takes-still}
use Rattle.aeth_network.proofs.tables.enter_uses.Goals as goal

-- The rows can still enter.
pub enter-requires : goal.enter-requires
enter-requires c =
    let tables = c.args.tables.now in
    let uses = c.args.uses.now in
    let index = c.loop-one.one-index in
    let none : EnteredUse = record { cycle = 0; entered = record { 0 = 0 } } in
    let rows = rows_in tables (slice_index_or uses index none).entered.0 in
    subst (λ (list : List RouterRow). All (TakesRows list) c.loop-one.components.parts)
    (sym c.rows_of.ensures)
    (subst (λ (parts : List Part). All (TakesRows rows) parts)
    (sym (ap (λ (all : ComponentsState). all.parts) c.loop-one.invariant))
    (takes-still (rows_in tables) rows (take index uses) c.args.components.now.parts
    (c.requires.takes index none c.loop-one-test.true)))
