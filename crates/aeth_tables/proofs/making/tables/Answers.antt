use Rattle.std.proofs.Common.{◌≡◌, ◌∙◌, List, length, ap, arith}
use Rattle.std.proofs.lemmas.Result.{IfOk-weaker}
use Rattle.aeth_base.specs.declared.ids.UseId.{UseId}
use Rattle.aeth_chip.specs.Chip.{ChipData}
use Rattle.aeth_app.specs.App.{AppData}
use Rattle.aeth_group.{specs.Members.GroupsData, proofs.MemberLemmas.length-groups_of}
use Rattle.aeth_plan.specs.Plan.{PlanData}
use Rattle.aeth_tables.specs.{Granted.granted_in, TableText.IsPrintable, Tables.TablesData}
use Rattle.aeth_tables.specs.{Tables.tables_of, Tables.tables_with}
use Rattle.aeth_tables.specs.{declared.granted.GrantedConnection.GrantedConnection}
use Rattle.aeth_tables.proofs.DesignLaws.{all_reserved, are_to_print}
use Rattle.aeth_tables.proofs.making.tables.Goals as goal

pub granted_in-requires-clause-use_case : goal.granted_in-requires-clause-use_case
granted_in-requires-clause-use_case c =
    omega (
      arith,
      c.requires.use_case,
      length-groups_of c.args.app.now,
      ap (λ (groups : GroupsData). length groups.uses) c.requires.groups,
    )

-- All connections have the seats and grants that they must.
pub tables_with-requires-clause-connections : goal.tables_with-requires-clause-connections
tables_with-requires-clause-connections c =
    all_reserved c.args.chip.now c.args.app.now c.args.groups.now c.args.plan.now
    c.slots-chip_slots.ensures.chip c.slots-app_slots.ensures.app c.requires.groups
    c.requires.plan c.requires.accepted c.args.u.0 c.requires.use_case c.deref.result.now
    (c.deref.ensures.value ∙ c.in_ok-connections.ensures)

-- These are the tables.
tables_are : (chip : ChipData) (app : AppData) (groups : GroupsData) (plan : PlanData) (u : UseId)
    (ones : List GrantedConnection) → ones ≡ granted_in app groups plan u.0
    → tables_with chip app u ones ≡ tables_of chip app groups plan u
unfolding tables_of
tables_are chip app groups plan u ones are = ap (tables_with chip app u) are

pub returns-clause-gives : goal.returns-clause-gives
returns-clause-gives c =
    let chip = c.args.chip.now in
    let app = c.args.app.now in
    let groups = c.args.groups.now in
    let plan = c.args.plan.now in
    let u = c.args.u in
    let ones = c.deref.result.now in
    IfOk-weaker c.tables_with.result
    (λ (tables : TablesData). tables ≡ tables_with chip app u ones)
    (λ (tables : TablesData). tables ≡ tables_of chip app groups plan u)
    (λ tables is. is ∙ tables_are chip app groups plan u ones
    (c.deref.ensures.value ∙ c.in_ok-connections.ensures)) c.tables_with.ensures

-- They can be printed.
pub returns-clause-printable : goal.returns-clause-printable
returns-clause-printable c =
    let chip = c.args.chip.now in
    let app = c.args.app.now in
    let groups = c.args.groups.now in
    let plan = c.args.plan.now in
    let u = c.args.u in
    let ones = c.deref.result.now in
    IfOk-weaker c.tables_with.result
    (λ (tables : TablesData). tables ≡ tables_with chip app u ones)
    (λ (tables : TablesData). IsPrintable chip app tables)
    (λ tables is. are_to_print chip app groups plan
    c.slots-chip_slots.ensures.chip c.slots-app_slots.ensures.app c.requires.groups
    c.requires.plan c.requires.accepted u c.requires.use_case tables
    (is ∙ tables_are chip app groups plan u ones
    (c.deref.ensures.value ∙ c.in_ok-connections.ensures))) c.tables_with.ensures
