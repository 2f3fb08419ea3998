use Rattle.std.proofs.lemmas.Result.{err_from_is_err_and}
use Rattle.aeth_group.specs.Members.{groups_of}
use Rattle.aeth_answers.specs.{Places.files_of, Task.ends}
use Rattle.aeth_answers.proofs.FileLemmas.{Answers-done, Answers-stopped, Answers-then}
use Rattle.aeth_rtable.specs.{RouteText.route_text, Rows.router_rows}
use Rattle.aeth_plan_commands.specs.RouteTables.{route_tables_job}
use Rattle.aeth_plan_commands.specs.PlannedUses.{planned_use, seen_use}
use Rattle.aeth_plan_commands.proofs.route_tables.answer.Goals as goal

-- There is no use case with an accepted plan.
pub returns-in_err-one : goal.returns-in_err-one
returns-in_err-one g c =
    let p = err_from_is_err_and c.from_residual.result c.from_residual.ensures.1 in
    rw (p.1, p.2)
    (Answers-stopped (files_of g.H.Shelf c.args.shelf.now)
    (files_of g.H.Shelf c.read_planned_use.new.shelf)
    (planned_use c.args.files.now) seen_use
    (λ one. ends (route_tables_job one)) _ c.in_err-one.ensures.judges)

-- Its tables are printed.
pub returns : goal.returns
returns g c =
    let now = files_of g.H.Shelf c.read_planned_use.new.shelf in
    let one = seen_use c.in_ok-one.one in
    Answers-then (files_of g.H.Shelf c.args.shelf.now) now now
    (planned_use c.args.files.now) seen_use
    c.in_ok-one.one (λ other. ends (route_tables_job other)) c.ended.result
    c.in_ok-one.ensures.judges
    (Answers-done now (route_text one.design.app one.use_case.0
    (router_rows one.design.chip (groups_of one.design.app) one.plan one.use_case.0))
    c.printed.result c.ended.result c.printed.ensures c.ended.ensures)
