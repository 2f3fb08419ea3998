use Rattle.std.proofs.Common.{◌≤◌, ◌<◌, ◌∙◌, List, length, ap, subst, sym, arith, All, nat_lt}
use Rattle.std.proofs.lemmas.List.Elements.{All-filter}
use Rattle.aeth_accepted.specs.Inputs.{design_on}
use Rattle.aeth_audit.specs.{Audit.first_fault, Judged.quiet, Limits.max_link_rows}
use Rattle.aeth_audit.specs.{Starts.AreStarts, declared.row.LinkRow.LinkRow}
use Rattle.aeth_audit.proofs.AuditLemmas.{is_judge, is_judge_of, quiet-accepted}
use Rattle.aeth_audit.proofs.auditing.audit.Goals as goal

-- What rows are judged with is the plan's, and the rows rise.
pub first_fault-requires : goal.first_fault-requires
first_fault-requires c =
    let chip = c.args.chip.now in
    let app = c.args.app.now in
    let plan = c.args.plan.now in
    let switches = c.args.switches.now in
    let are = rw c.requires.groups at c.requires.switches in
    let timeline = rw c.requires.groups at c.requires.timeline in
    let sound = c.runs_are_sound.ensures.sound (quiet chip app plan switches)
    (quiet-accepted chip app plan switches c.requires.design c.requires.of_chip are) in
    let few : length c.rows_until-rows.result.now ≤ max_link_rows =
    omega (arith, c.rows_until-rows.ensures.few, c.requires.log.few) in
    let known = All-filter (λ (row : LinkRow). nat_lt row.cycle c.args.cycles)
    (λ (row : LinkRow). row.link.0 < length chip.links) c.args.log.now c.requires.log.known in
    is_judge app switches _ c.requires.design sound timeline c.in_ok-table.ensures
    c.rows_until-rows.ensures.rises few
    (subst (All (λ (row : LinkRow). row.link.0 < length chip.links))
    (sym c.rows_until-rows.ensures.until) known)
    (subst (AreStarts c.rows_until-rows.result.now) (sym c.deref.ensures.value) c.in_ok-starts.ensures)

-- The first fault of the rows is the audit's.
pub returns : goal.returns
returns c =
    let chip = c.args.chip.now in
    let app = c.args.app.now in
    let plan = c.args.plan.now in
    let switches = c.args.switches.now in
    let are = rw c.requires.groups at c.requires.switches in
    let timeline = rw c.requires.groups at c.requires.timeline in
    let sound = c.runs_are_sound.ensures.sound (quiet chip app plan switches)
    (quiet-accepted chip app plan switches c.requires.design c.requires.of_chip are) in
    c.first_fault.ensures app switches
    (is_judge_of app switches _ c.requires.design sound timeline c.in_ok-table.ensures)
    ∙ ap (λ (rows : List LinkRow). first_fault (design_on chip app plan) c.args.timeline.now
    c.args.cycles rows 1 rows) c.rows_until-rows.ensures.until
