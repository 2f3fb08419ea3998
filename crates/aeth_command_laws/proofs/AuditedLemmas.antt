-- `audit` says that a log is clean exactly where no row of it breaks a rule.
use Rattle.std.proofs.Common.{◌≡◌, ◌∙◌, ℕ, List, [], Option, Some, ap, arith, filter, length, refl}
use Rattle.std.proofs.Common.{subst, sym, codes, nat_lt}
use Rattle.std.proofs.lemmas.List.{Elements.All-nil, Sorted.IsNonDecreasingBy-short}
use Rattle.std.proofs.lemmas.Option.{same_Some}
use Rattle.aeth_accepted.specs.Inputs.{AreAccepted, Inputs, design_on, inputs_with, run_of}
use Rattle.aeth_answers.specs.{Job.Job, Job.done, Status.done_status, Task.job_with}
use Rattle.aeth_app.specs.AppFile.{app_of}
use Rattle.aeth_audit.specs.{Audit.audit_of, Breaks.IsAuditOf, LinkLog.link_log_of}
use Rattle.aeth_audit.specs.{declared.row.LinkRow.LinkRow, declared.verdict.Audit.Audit}
use Rattle.aeth_audit.specs.{declared.verdict.Audit.TheVariants.Clean}
use Rattle.aeth_audit.specs.{declared.verdict.Audit.TheVariants.Fault}
use Rattle.aeth_base.proofs.Members.{Contains-slice_get}
use Rattle.aeth_check.specs.{Verdict.verdict_of, declared.verdict.Verdict.Verdict}
use Rattle.aeth_chip.specs.ChipFile.{chip_of}
use Rattle.aeth_files.{specs.Plans.on_verdict, proofs.ToldLemmas.file_kept}
use Rattle.aeth_group.specs.Members.{groups_of}
use Rattle.aeth_plan.specs.PlanText.{plan_of}
use Rattle.aeth_plan_commands.specs.Audit.{audit_job, audit_task, audited, planned_task}
use Rattle.aeth_plan_commands.specs.Audit.{switched_task}
use Rattle.aeth_plan_commands.specs.declared.audit.AuditFiles.{AuditFiles}
use Rattle.aeth_reconf.specs.Timeline.{timeline_of}
use Rattle.aeth_trace.specs.{Switches.switches_of, declared.words.WordRow.WordRow}
use Rattle.aeth_command_laws.specs.Logged.{IsAudited, IsCleanLog, IsLogTold, LogFor, spans_for}
use Rattle.aeth_command_laws.proofs.ToldLemmas.{FilesTell, RunsTell, design_kept, file_read}
use Rattle.aeth_command_laws.proofs.ToldLemmas.{not_refused, plan_kept}

-- What an audit says in the run of accepted inputs.
abbrev pub AreJudged : Type 0
AreJudged = (inputs : Inputs) → AreAccepted inputs → (log : List LinkRow) (cycles : ℕ)
    → (let run = run_of inputs in
    let timeline = timeline_of run.design.groups run.spans run.switches in
    IsAuditOf run.design timeline cycles (filter (λ row. nat_lt row.cycle cycles) log)
    (audit_of run.design timeline log cycles))

-- The job of an audit says that the log is clean only where the audit does.
says-clean : (audit : Audit) → audit_job audit ≡ done (codes "clean\n") → audit ≡ Clean
says-clean Clean is = refl
says-clean (Fault rule number) is = absurd (omega (arith, ap (λ (job : Job). job.status) is))

module _ (content : List ℕ → Option (List ℕ)) (files : AuditFiles) (cycles : ℕ) (judged : AreJudged)
    (runs_tell : RunsTell) (log : LogFor) (told : IsLogTold content files cycles log) where
  -- The inputs of a run with these switches, without words.
  abbrev inputs : Inputs
  inputs = inputs_with log.design.chip log.design.app log.plan [] [] log.switches 0

  accepted : AreAccepted inputs
  accepted = record {
    design = told.plan.accepted;
    of_chip = told.plan.design_told.of_chip;
    words = record {
      few = omega arith;
      known = All-nil _;
      order = IsNonDecreasingBy-short (λ (row : WordRow). row.cycle) [] (omega arith);
      cycles = All-nil _;
    };
    pulls = record {
      few = omega arith;
      known = All-nil _;
      order = IsNonDecreasingBy-short _ [] (omega arith);
      cycles = All-nil _;
      pulls = All-nil _;
    };
    switches = runs_tell.switches log.design.app (spans_for log) told.switches.bytes log.switches
        told.switches.told;
    cycles = omega arith;
  }

  abbrev own_audit : Audit
  own_audit = audited log.design log.plan log.switches log.rows cycles

  -- The rows that are judged.
  abbrev rows : List LinkRow
  rows = filter (λ row. nat_lt row.cycle cycles) log.rows

  abbrev IsJudged : Audit → Type 0
  IsJudged audit = IsAuditOf (run_of inputs).design
      (timeline_of (groups_of log.design.app) (spans_for log) log.switches) cycles rows audit

  abbrev AreClean : Type 0
  AreClean = IsCleanLog (design_on log.design.chip log.design.app log.plan) (spans_for log)
      log.switches cycles log.rows

  -- An audit that says so judges a clean log.
  pub clean-from : own_audit ≡ Clean → AreClean
  clean-from is = subst IsJudged is (judged inputs accepted log.rows cycles)

  -- That of a clean log says so.
  clean-says : (audit : Audit) → IsJudged audit → AreClean → audit ≡ Clean
  clean-says Clean says clean = refl
  clean-says (Fault rule number) says clean = absurd
      (clean says.row (Contains-slice_get rows says.place says.row says.at) rule says.breaks)

  -- The job of a log that was told is its audit.
  pub audit-told : AreClean
      → job_with content (audit_task files cycles) ≡ Some (done (codes "clean\n"))
  audit-told clean =
      let design = log.design in
      let groups = groups_of design.app in
      let plan = told.plan.plan_told in
      let given = told.plan.design_told in
      let verdict : verdict_of design.chip design.app groups log.plan ≡ _ =
      (runs_tell.accepted design.chip given.chip_is design.app groups log.plan).1
      told.plan.accepted.accepted in
      file_read content (codes "chip") chip_of files.chip design.chip _ given.chip_told
      ∙ file_read content (codes "app") (app_of design.chip) files.app design.app _ given.app_told
      ∙ file_read content (codes "plan") (plan_of design.chip design.app groups) files.plan log.plan _
      plan
      ∙ ap (λ (one : Verdict). job_with content (on_verdict design.app one
      (λ _. switched_task design log.plan files cycles))) verdict
      ∙ file_read content (codes "switches") (switches_of design.app (spans_for log)) files.switches
      log.switches _ told.switches
      ∙ file_read content (codes "log") (link_log_of (length design.chip.links)) files.log log.rows _
      told.rows
      ∙ ap (λ (audit : Audit). Some (audit_job audit))
      (clean-says own_audit (judged inputs accepted log.rows cycles) clean)

-- A job of `audit` says that a log is clean exactly where the files told one.
pub exactly-clean : FilesTell → RunsTell → AreJudged → (content : List ℕ → Option (List ℕ))
    (files : AuditFiles) (cycles : ℕ) (asked : Job)
    → job_with content (audit_task files cycles) ≡ Some asked → IsAudited content files cycles asked
exactly-clean tell runs_tell judged content files cycles asked is = (
  (λ says.
      let finished : asked.status ≡ done_status = ap (λ (job : Job). job.status) says in
      let kept = not_refused tell runs_tell content asked finished in
      let (design, given, on_plan) = design_kept tell content asked kept files.chip files.app
      (λ design. planned_task design files cycles) is in
      let (plan, planned, on_switches) = plan_kept tell runs_tell content asked finished files.chip
      files.app files.plan design given (λ plan. switched_task design plan files cycles) on_plan in
      let spans = spans_for (record { design = design; plan = plan; switches = []; rows = [] }) in
      let (switches, of_switches, on_log) = file_kept content asked kept (codes "switches")
      (switches_of design.app spans) files.switches _ on_switches in
      let (rows, of_rows, at_end) = file_kept content asked kept (codes "log")
      (link_log_of (length design.chip.links)) files.log _ on_log in
      let log : LogFor =
      record { design = design; plan = plan; switches = switches; rows = rows } in
      let told : IsLogTold content files cycles log =
      record { plan = planned; switches = of_switches; rows = of_rows } in
      record {
        log = log;
        told = told;
        clean = clean-from content files cycles judged runs_tell log told (says-clean
            (audited design plan switches rows cycles)
            (same_Some (audit_job (audited design plan switches rows cycles)) asked at_end ∙ says));
      }),
  (λ clean. sym (same_Some (done (codes "clean\n")) asked
      (sym (audit-told content files cycles judged runs_tell clean.log clean.told clean.clean) ∙ is))),
)
