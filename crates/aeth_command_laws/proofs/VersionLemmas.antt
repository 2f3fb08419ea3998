-- The job of a command is the same for a chip in version 1 and for the same text in version 2.
use Rattle.std.proofs.Common.{◌≡◌, ◌≢◌, ◌∙◌, ℕ, Bool, true, false, List, Option, Some, None, Result}
use Rattle.std.proofs.Common.{Ok, Err, ap, if◌then◌else◌, length, map, refl, sym, codes, nat_le}
use Rattle.std.proofs.Common.{pos, position}
use Rattle.std.specs.{Prelude.⊤, Str.bytes_eq}
use Rattle.aeth_answers.specs.{Files.judged_file, Files.judgement, Job.Job, Job.done}
use Rattle.aeth_answers.specs.{Refusal.refused_file, Refusal.too_long, Task.Task, Task.ends}
use Rattle.aeth_answers.specs.{Task.job_with, Task.reads, Task.told}
use Rattle.aeth_app.specs.{App.AppData, AppFile.app_of}
use Rattle.aeth_audit.specs.LinkLog.{link_log_of}
use Rattle.aeth_base.specs.{Faults.BrokenRule, declared.ids.UseId.UseId}
use Rattle.aeth_chain.specs.ChainItems.{items_of}
use Rattle.aeth_check.specs.Verdict.{verdict_of}
use Rattle.aeth_check.specs.declared.verdict.Verdict.{Verdict}
use Rattle.aeth_check.specs.declared.verdict.Verdict.TheVariants.{Accepted, Broken, Missing}
use Rattle.aeth_chip.specs.{Chip.ChipData, ChipFile.chip_of, Told.version_of, Versions.in_version_2}
use Rattle.aeth_design_commands.specs.{Allocate.allocate_job, App.app_text, Chip.chip_text}
use Rattle.aeth_design_commands.specs.{Commands.design_task}
use Rattle.aeth_design_commands.specs.{declared.command.DesignCommand.DesignCommand}
use Rattle.aeth_document.specs.Document.{document_of}
use Rattle.aeth_explain.specs.CutsText.{cuts_of_text, line_of}
use Rattle.aeth_explain_commands.specs.Commands.{refusals_task}
use Rattle.aeth_explain_commands.specs.Explain.{cert_task, explanation, refused_tries, verdicts_job}
use Rattle.aeth_explain_commands.specs.declared.command.ExplainCommand.{ExplainCommand}
use Rattle.aeth_files.specs.{Files.chip_file, Files.design_file, Plans.accepted_file}
use Rattle.aeth_files.specs.{Plans.on_verdict, Uses.named_use, Uses.on_use}
use Rattle.aeth_run_files.specs.{TraceFiles.receivers_file, TraceFiles.switches_file}
use Rattle.aeth_run_files.specs.{Runs.traced_files, declared.runs.RunFiles.RunFiles}
use Rattle.aeth_group.specs.Members.{groups_of}
use Rattle.aeth_io.specs.Limits.{max_file_bytes}
use Rattle.aeth_plan.specs.{Plan.PlanData, PlanText.plan_of, declared.design.Design.Design}
use Rattle.aeth_plan_commands.specs.{Audit.audit_job, Audit.audited, Audit.log_task}
use Rattle.aeth_plan_commands.specs.{Audit.switched_task, Chain.chain_job, Chain.items_task}
use Rattle.aeth_plan_commands.specs.{Chain.named_task, Chain.pulled_task, Chain.words_task}
use Rattle.aeth_plan_commands.specs.{Commands.plan_task, PlannedUses.plan_for, PlannedUses.use_for}
use Rattle.aeth_plan_commands.specs.{RouteTables.route_tables_job, Tables.tables_job}
use Rattle.aeth_plan_commands.specs.{declared.command.PlanCommand.PlanCommand}
use Rattle.aeth_run_commands.specs.TracedDesigns.{TracedData, traced_design, traced_for}
use Rattle.aeth_tables.specs.Switching.{spans_of}
use Rattle.aeth_trace.specs.{Receivers.receivers_of, Switches.switches_of, Switches.use_names}
use Rattle.aeth_trace.specs.{Words.words_of, declared.receivers.PullRow.PullRow}
use Rattle.aeth_trace.specs.{declared.switches.SwitchRow.SwitchRow, declared.words.WordRow.WordRow}
use Rattle.toml.specs.Data.{Members}
use Rattle.aeth_command_laws.specs.Versions.{AreDesignVersions, AreFileVersions, ArePlanVersions}
use Rattle.aeth_command_laws.specs.Versions.{AreRefusalVersions, AreVersions}
use Rattle.aeth_command_laws.proofs.ToldLemmas.{file_read}
use Rattle.aeth_design_commands.specs.Check as check
use Rattle.aeth_design_commands.specs.declared.command.DesignCommand.TheVariants as design
use Rattle.aeth_explain_commands.specs.declared.command.ExplainCommand.TheVariants as refusals
use Rattle.aeth_plan_commands.specs.Audit as audit
use Rattle.aeth_plan_commands.specs.Chain as chain
use Rattle.aeth_plan_commands.specs.declared.command.PlanCommand.TheVariants as plan

-- The same document with version 2 tells the same chip.
abbrev pub TellsVersions : Type 0
TellsVersions = (old new : List ℕ) (root : Members) (chip : ChipData)
    → document_of old ≡ Some root → document_of new ≡ Some (in_version_2 root)
    → version_of root ≡ pos 1 → chip_of old ≡ Ok chip → chip_of new ≡ Ok chip

module _ (old new : List ℕ → Option (List ℕ)) (name : List ℕ) where
  -- A task reads no file of this name.
  abbrev ReadsNot : Task → Type 0
  ReadsNot (ends job) = ⊤
  ReadsNot (reads file own next) = (own ≢ name) × ((bytes : List ℕ) → ReadsNot (next bytes))

  -- It comes to one job where all other files are the same.
  same-job : ((other : List ℕ) → other ≢ name → old other ≡ new other) → (task : Task)
      → ReadsNot task → job_with old task ≡ job_with new task
  same-job others (ends job) not_read = refl
  same-job others (reads file own next) not_read =
      let cases : (held : Option (List ℕ)) → told held (λ bytes. job_with old (next bytes))
      ≡ told held (λ bytes. job_with new (next bytes)) = elim [
        | None ↦ refl
        | Some bytes ↦ same-job others (next bytes) (not_read.1 bytes)
      ] in
      ap (λ (held : Option (List ℕ)). told held (λ bytes. job_with old (next bytes)))
      (others own not_read.0)
      ∙ cases (new own)

  -- So it is where the file is the chip's, and tells it in either version.
  chip-same : TellsVersions → AreVersions old new name → (next : ChipData → Task)
      → ((chip : ChipData) → ReadsNot (next chip))
      → job_with old (chip_file name next) ≡ job_with new (chip_file name next)
  chip-same tells is next not_read =
      file_read old (codes "chip") chip_of name is.chip next (record {
        bytes = is.first;
        held = is.held;
        short = is.short;
        told = is.told;
      })
      ∙ same-job is.others (next is.chip) (not_read is.chip)
      ∙ sym (file_read new (codes "chip") chip_of name is.chip next (record {
        bytes = is.second;
        held = is.held_behind;
        short = is.short_behind;
        told = tells is.first is.second is.root is.chip is.document is.document_behind is.version
            is.told;
      }))

  -- ---- parts of tasks
  not-if : (test : Bool) (one other : Task) → ReadsNot one → ReadsNot other
      → ReadsNot (if test then one else other)
  not-if true one other first second = first
  not-if false one other first second = second

  not-judgement : {A : Type 0} (file : List ℕ) (result : Result A BrokenRule) (next : A → Task)
      → ((value : A) → ReadsNot (next value)) → ReadsNot (judgement file result next)
  not-judgement file (Ok value) next each = each value
  not-judgement file (Err broken) next each = tt

  not-file : {A : Type 0} (file : List ℕ) (told_by : List ℕ → Result A BrokenRule) (own : List ℕ)
      (next : A → Task) → own ≢ name → ((value : A) → ReadsNot (next value))
      → ReadsNot (judged_file file told_by own next)
  not-file file told_by own next other each = (
    other,
    λ bytes. not-if (nat_le (length bytes) max_file_bytes) (judgement file (told_by bytes) next)
        (ends (refused_file file too_long)) (not-judgement file (told_by bytes) next each) tt,
  )

  not-verdict : (app : AppData) (verdict : Verdict) (next : Unit {0} → Task) → ReadsNot (next tt)
      → ReadsNot (on_verdict app verdict next)
  not-verdict app Accepted next later = later
  not-verdict app (Missing unit side) next later = tt
  not-verdict app (Broken rule line other) next later = tt

  not-plan : (design : Design) (own : List ℕ) (next : PlanData → Task) → own ≢ name
      → ((plan : PlanData) → ReadsNot (next plan))
      → ReadsNot (accepted_file design.chip design.app own next)
  not-plan design own next other each =
      not-file (codes "plan") (plan_of design.chip design.app (groups_of design.app)) own
      (λ plan. on_verdict design.app
      (verdict_of design.chip design.app (groups_of design.app) plan) (λ _. next plan)) other
      (λ plan. not-verdict design.app
      (verdict_of design.chip design.app (groups_of design.app) plan) (λ _. next plan) (each plan))

  not-use : (app : AppData) (own : List ℕ) (next : UseId → Task)
      → ((u : UseId) → ReadsNot (next u)) → ReadsNot (named_use app own next)
  not-use app own next each =
      let cases : (found : Option ℕ) → ReadsNot (on_use own found next) = elim [
        | None ↦ tt
        | Some place ↦ each (record { 0 = place })
      ] in
      cases (position (bytes_eq own) (use_names app))

  -- A design, and what comes of it.
  design-same : TellsVersions → AreVersions old new name → (app : List ℕ) → app ≢ name
      → (next : Design → Task) → ((design : Design) → ReadsNot (next design))
      → job_with old (design_file name app next) ≡ job_with new (design_file name app next)
  design-same tells is app other next each = chip-same tells is
      (λ chip. judged_file (codes "app") (app_of chip) app
      (λ one. next (record { chip = chip; app = one })))
      (λ chip. not-file (codes "app") (app_of chip) app
      (λ one. next (record { chip = chip; app = one })) other
      (λ one. each (record { chip = chip; app = one })))

module _ (tells : TellsVersions) (old new : List ℕ → Option (List ℕ)) where
  -- The commands on designs.
  pub designs-same : (one : DesignCommand) → AreDesignVersions old new one
      → job_with old (design_task one) ≡ job_with new (design_task one)
  designs-same (design.Slots need gap free) is = refl
  designs-same (design.Server need links slots) is = refl
  designs-same (design.Chip chip) is =
      chip-same old new chip tells is (λ one. ends (done (chip_text one))) (λ _. tt)
  designs-same (design.App chip app) is = design-same old new chip tells is.0 app is.1
      (λ given. ends (done (app_text given.app))) (λ _. tt)
  designs-same (design.Allocate chip app) is = design-same old new chip tells is.0 app is.1
      (λ given. ends (allocate_job given.chip given.app)) (λ _. tt)
  designs-same (design.Check chip app plan_name) is = design-same old new chip tells is.0 app is.1
      (λ given. check.plan_task given plan_name)
      (λ given. not-plan old new chip given plan_name (λ _. ends (done (codes "accepted\n"))) is.2
      (λ _. tt))

  -- The command on refusals.
  pub refusals-same : (one : ExplainCommand) → AreRefusalVersions old new one
      → job_with old (refusals_task one) ≡ job_with new (refusals_task one)
  refusals-same (refusals.Explain chip app) is = design-same old new chip tells is.0 app is.1
      (λ given. ends (done (explanation given))) (λ _. tt)
  refusals-same (refusals.Confirm chip app cert) is = design-same old new chip tells is.0 app is.1
      (λ given. cert_task given cert)
      (λ given. not-file old new chip (codes "cert") (cuts_of_text given.chip given.app
      (groups_of given.app) (map line_of (refused_tries given))) cert
      (λ blocks. ends (verdicts_job given 2 (refused_tries given) blocks)) is.2 (λ _. tt))

  -- The commands on plans.
  pub plans-same : (one : PlanCommand) → ArePlanVersions old new one
      → job_with old (plan_task one) ≡ job_with new (plan_task one)
  plans-same (plan.Tables files) is = design-same old new files.chip tells is.0 files.app is.1
      (λ given. use_for files given (λ one. ends (tables_job one)))
      (λ given. not-use old new files.chip given.app files.name
      (λ u. plan_for files given u (λ one. ends (tables_job one)))
      (λ u. not-plan old new files.chip given files.plan
      (λ own. ends (tables_job (record { design = given; plan = own; use_case = u }))) is.2
      (λ _. tt)))
  plans-same (plan.RouteTables files) is =
      design-same old new files.chip tells is.0 files.app is.1
      (λ given. use_for files given (λ one. ends (route_tables_job one)))
      (λ given. not-use old new files.chip given.app files.name
      (λ u. plan_for files given u (λ one. ends (route_tables_job one)))
      (λ u. not-plan old new files.chip given files.plan
      (λ own. ends (route_tables_job (record { design = given; plan = own; use_case = u }))) is.2
      (λ _. tt)))
  plans-same (plan.Audit files cycles) is =
      design-same old new files.chip tells is.0 files.app is.1
      (λ given. audit.planned_task given files cycles)
      (λ given. not-plan old new files.chip given files.plan
      (λ own. switched_task given own files cycles) is.2
      (λ own. not-file old new files.chip (codes "switches")
      (switches_of given.app (spans_of given.chip given.app (groups_of given.app) own))
      files.switches (λ switches. log_task given own switches files cycles) is.3
      (λ switches. not-file old new files.chip (codes "log") (link_log_of (length given.chip.links))
      files.log (λ log. ends (audit_job (audited given own switches log cycles))) is.4 (λ _. tt))))
  plans-same (plan.Chain files name items cycles) is =
      design-same old new files.chip tells is.0 files.app is.1
      (λ given. named_task given files name items cycles)
      (λ given. not-use old new files.chip given.app name
      (λ u. items_task given files u items cycles)
      (λ u. not-judgement old new files.chip (codes "chain") (items_of given.app u.0 items)
      (λ judged. chain.planned_task given files u judged cycles)
      (λ judged. not-plan old new files.chip given files.plan
      (λ own. words_task given files own u judged cycles) is.2
      (λ own. not-file old new files.chip (codes "words") (words_of given.app) files.words
      (λ words. pulled_task given files own u judged cycles words) is.3
      (λ words. not-file old new files.chip (codes "receivers") (receivers_of given.app)
      files.receivers (λ pulls. ends (chain_job given own u judged cycles words pulls)) is.4
      (λ _. tt))))))

  -- What reads the files of a run.
  pub traced-same : (files : RunFiles) → AreFileVersions old new files → (next : TracedData → Job)
      → job_with old (traced_design files (λ one. ends (next one)))
      ≡ job_with new (traced_design files (λ one. ends (next one)))
  traced-same files is next =
      let job = λ (given : Design) (own : PlanData) (words : List WordRow) (pulls : List PullRow)
      (switches : List SwitchRow). ends (next (record {
        design = given;
        run = record {
          plan = own;
          traces = record { words = words; receivers = pulls; switches = switches };
        };
      })) in
      let spans = λ (given : Design) (own : PlanData).
      spans_of given.chip given.app (groups_of given.app) own in
      design-same old new files.chip tells is.versions files.app is.app
      (λ given. traced_for files given (λ one. ends (next one)))
      (λ given. not-plan old new files.chip given files.plan
      (λ own. traced_files given files own (λ run. ends (next (record { design = given; run = run }))))
      is.plan
      (λ own. not-file old new files.chip (codes "words") (words_of given.app) files.words
      (λ words. receivers_file given.app files.receivers (λ pulls.
      switches_file given.app (spans given own) files.switches (λ switches.
      job given own words pulls switches))) is.words
      (λ words. not-file old new files.chip (codes "receivers") (receivers_of given.app)
      files.receivers (λ pulls. switches_file given.app (spans given own) files.switches (λ switches.
      job given own words pulls switches)) is.receivers
      (λ pulls. not-file old new files.chip (codes "switches") (switches_of given.app (spans given own))
      files.switches (λ switches. job given own words pulls switches) is.switches (λ _. tt)))))
