use Rattle.std.proofs.Common.{◌∙◌, ap, arith, subst, sym}
use Rattle.std.specs.List.Sorted.{IsNonDecreasingBy}
use Rattle.aeth_running.specs.Routing.{Entering, Routing, later_rows}
use Rattle.aeth_network.proofs.MappedRows.{passed-mapped, rises-mapped}
use Rattle.aeth_network.specs.{Behind.passed, Routes.entering_of, Routes.rows_in}
use Rattle.aeth_network.specs.{declared.tables.EnteredUse.EnteredUse}
use Rattle.aeth_network.proofs.tables.UseTables.quiet_until.Goals as goal

-- Use cases are entered as their rows are.
pub quiet_until-requires : goal.quiet_until-requires
quiet_until-requires c =
    let all = c.self.inside in
    let key = λ (one : Entering). one.cycle in
    subst (IsNonDecreasingBy (λ (one : EnteredUse). one.cycle)) (sym c.deref.ensures.value)
    (rises-mapped (entering_of (rows_in all.tables.items)) key all.later.items
    (subst (λ (routing : Routing). IsNonDecreasingBy key (later_rows routing)) (sym c.self.view_is)
    c.requires))

pub returns-clause-quiet : goal.returns-clause-quiet
returns-clause-quiet c =
    let all = c.self.inside in
    let key = λ (one : Entering). one.cycle in
    let until = c.quiet_until.result in
    let same = ap (λ (routing : Routing). passed key until (later_rows routing)) (sym c.self.view_is)
    ∙ passed-mapped (entering_of (rows_in all.tables.items)) key until all.later.items
    ∙ ap (passed (λ (one : EnteredUse). one.cycle) until) (sym c.deref.ensures.value) in
    let quiet = c.quiet_until.ensures.quiet in
    omega (arith, same, quiet)
