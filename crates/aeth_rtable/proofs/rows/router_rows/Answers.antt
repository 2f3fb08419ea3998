use Rattle.std.proofs.Common.{◌≡◌, Global, List, Option, Vec, subst, sym}
use Rattle.std.proofs.lemmas.Result.{IfOk-weaker}
use Rattle.aeth_base.specs.declared.ids.LinkId.{LinkId}
use Rattle.aeth_check.proofs.PlanParts.{are_placed}
use Rattle.aeth_rtable.{specs.Entries.HasEntries, specs.Hops.hops_in, specs.Rows.router_rows}
use Rattle.aeth_rtable.{specs.RouterTables.AreTables, proofs.TableLaws.are_tables}
use Rattle.aeth_router.specs.declared.router_row.RouterRow.{RouterRow}
use Rattle.aeth_rtable.proofs.rows.router_rows.Goals as goal

-- The links and slots of the grants are the chip's.
pub entries_in-requires : goal.entries_in-requires
entries_in-requires c = are_placed c.args.chip.now c.slots-chip_slots.ensures.chip c.args.app.now
    c.args.groups.now c.args.plan.now c.requires.plan

-- The rows are those of the use case's hops.
pub returns-clause-gives : goal.returns-clause-gives
unfolding router_rows
returns-clause-gives c =
    let chip = c.args.chip.now in
    let hops = hops_in chip c.args.groups.now c.args.plan.now c.args.u.0 in
    c.rows_by.ensures hops (subst (λ (entries : List (Option LinkId)). HasEntries chip.slots hops entries)
    (sym c.deref.ensures.value) c.in_ok-entries.ensures.entries)

-- By an accepted plan they are the tables.
pub returns-clause-tables : goal.returns-clause-tables
returns-clause-tables c =
    let chip = c.args.chip.now in
    let groups = c.args.groups.now in
    let plan = c.args.plan.now in
    let u = c.args.u.0 in
    let tables = are_tables chip c.args.app.now groups plan c.slots-chip_slots.ensures.chip
    c.requires.plan c.requires.accepted u in
    IfOk-weaker c.rows_by.result
    (λ (rows : Vec RouterRow Global). rows.items ≡ router_rows chip groups plan u)
    (λ (rows : Vec RouterRow Global). AreTables chip groups plan u rows.items)
    (λ rows is. subst (λ (all : List RouterRow). AreTables chip groups plan u all) (sym is) tables)
    (returns-clause-gives c)
