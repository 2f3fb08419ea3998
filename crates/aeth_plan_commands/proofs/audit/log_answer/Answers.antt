use Rattle.std.proofs.{Common.List, Common.length, lemmas.Result.err_from_is_err_and}
use Rattle.aeth_audit.specs.declared.row.LinkRow.{LinkRow}
use Rattle.aeth_answers.specs.{Places.files_of, Task.ends}
use Rattle.aeth_answers.proofs.FileLemmas.{Answers-ended, Answers-stopped, Answers-then}
use Rattle.aeth_plan_commands.specs.Audit.{audit_job, audited, log_file}
use Rattle.aeth_plan_commands.proofs.AuditJobs.{audit_job-below, audit_job-command}
use Rattle.aeth_plan_commands.proofs.audit.log_answer.Goals as goal

-- There is no log.
pub returns-in_err-log : goal.returns-in_err-log
returns-in_err-log g c =
    let p = err_from_is_err_and c.from_residual.result c.from_residual.ensures.1 in
    let design = c.args.accepted.now.design.now in
    rw (p.1, p.2)
    (Answers-stopped (files_of g.H.Shelf c.args.shelf.now)
    (files_of g.H.Shelf c.read_log_file.new.shelf)
    (log_file (length design.chip.links) c.args.files.now.log) (λ (rows : List LinkRow). rows)
    (λ log. ends (audit_job (audited design c.args.accepted.now.planned.now.plan c.args.switches.now log
    c.args.cycles))) _ c.in_err-log.ensures.judges)

-- The audit of the log is told.
pub returns : goal.returns
returns g c =
    let now = files_of g.H.Shelf c.read_log_file.new.shelf in
    let design = c.args.accepted.now.design.now in
    let said = λ (log : List LinkRow). audited design c.args.accepted.now.planned.now.plan
    c.args.switches.now log c.args.cycles in
    let log = c.in_ok-log.log in
    Answers-then (files_of g.H.Shelf c.args.shelf.now) now now
    (log_file (length design.chip.links) c.args.files.now.log) (λ (rows : List LinkRow). rows) log
    (λ rows. ends (audit_job (said rows))) c.ended.result c.in_ok-log.ensures.judges
    (Answers-ended now (audit_job (said log)) c.audited.result c.ended.result
    (audit_job-below (said log)) (audit_job-command (said log)) c.audited.ensures c.ended.ensures)
