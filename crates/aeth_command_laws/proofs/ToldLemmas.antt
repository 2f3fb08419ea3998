-- Laws of tasks that come to a job which refuses no file.
use Rattle.std.proofs.Common.{◌≡◌, ◌≢◌, ◌≤◌, ◌<◌, ◌↔◌, ◌∙◌, ℕ, Bool, List, Option, Some, None}
use Rattle.std.proofs.Common.{Result, Ok, Err, ap, arith, get_or, if◌then◌else◌, length, refl}
use Rattle.std.proofs.Common.{slice_get, sym, codes, nat_le, position, le-leb}
use Rattle.std.proofs.lemmas.{List.length-map, List.Quantifiers.position-Some, Option.same_Some}
use Rattle.std.proofs.lemmas.{Option.slice_get-get_or, Slice.Eq.bytes_eq-Decides}
use Rattle.std.specs.Str.{bytes_eq}
use Rattle.aeth_accepted.specs.Inputs.{Inputs}
use Rattle.aeth_app.specs.{App.AppData, App.IsApp, App.IsAppOf, AppFile.app_of}
use Rattle.aeth_base.specs.{Faults.BrokenRule, Limits.max_cycles, declared.ids.UseId.UseId}
use Rattle.aeth_check.specs.{Verdict.verdict_of, declared.verdict.Verdict.TheVariants.Accepted}
use Rattle.aeth_chip.specs.{Chip.ChipData, Chip.IsChip, ChipFile.chip_of}
use Rattle.aeth_group.specs.Members.{GroupsData, groups_of}
use Rattle.aeth_plan.{specs.Plan.PlanData, specs.PlanText.plan_of, proofs.PlanReading.plan_only}
use Rattle.aeth_plan.{specs.Accepted.IsAccepted, specs.declared.design.Design.Design}
use Rattle.aeth_io.specs.Limits.{max_file_bytes}
use Rattle.aeth_report.specs.Log.{LogData}
use Rattle.aeth_tables.specs.Switching.{spans_of}
use Rattle.aeth_trace.specs.{Receivers.AreReceiversOf, Receivers.receivers_of, Spans.SpanData}
use Rattle.aeth_trace.specs.{Switches.AreSwitchesOf, Switches.switches_of, Switches.use_names}
use Rattle.aeth_trace.specs.{Words.AreWordsOf, Words.words_of, declared.receivers.PullRow.PullRow}
use Rattle.aeth_trace.specs.{declared.switches.SwitchRow.SwitchRow, declared.words.WordRow.WordRow}
use Rattle.aeth_answers.specs.{Files.judged_file, Files.judgement, Job.Job, Refusal.refused_file}
use Rattle.aeth_answers.specs.{Refusal.too_long, Status.done_status, Status.refused_status}
use Rattle.aeth_answers.specs.{Task.Task, Task.ends, Task.job_with, Task.told}
use Rattle.aeth_files.specs.{Files.design_file, Plans.accepted_file, Told.IsTold, Uses.named_use}
use Rattle.aeth_files.specs.{Uses.on_use, Uses.unknown_use}
use Rattle.aeth_files.proofs.ToldLemmas.{file_kept, verdict_kept}
use Rattle.aeth_run_files.specs.declared.runs.RunFiles.{RunFiles}
use Rattle.aeth_design_commands.specs.Allocate.{allocate_job, allocate_task}
use Rattle.aeth_run_commands.specs.Simulate.{simulate_task, simulation_job}
use Rattle.aeth_run_commands.specs.TracedDesigns.{TracedData, traced_design, traced_for}
use Rattle.aeth_run_commands.specs.TracedDesigns.{traced_inputs}
use Rattle.aeth_command_laws.specs.Told.{AreInputsTold, IsAllocated, IsDesignTold, IsPlanTold}
use Rattle.aeth_command_laws.specs.Told.{IsSimulated}

-- What the files of chips and applications tell.
pub record FilesTell : Type 0 where
  pub chip : (bytes : List ℕ) (chip : ChipData) → chip_of bytes ≡ Ok chip → IsChip chip
  pub app : (chip : ChipData) (bytes : List ℕ) (app : AppData) → IsChip chip
      → app_of chip bytes ≡ Ok app → IsApp app × IsAppOf chip app

-- What plans that are judged, and the files of traces, tell.
pub record RunsTell : Type 0 where
  pub accepted : (chip : ChipData) → IsChip chip → (app : AppData) (groups : GroupsData)
      (plan : PlanData)
      → (verdict_of chip app groups plan ≡ Accepted) ↔ IsAccepted chip app groups plan
  pub words : (app : AppData) (bytes : List ℕ) (rows : List WordRow) → words_of app bytes ≡ Ok rows
      → AreWordsOf app rows
  pub receivers : (app : AppData) (bytes : List ℕ) (rows : List PullRow)
      → receivers_of app bytes ≡ Ok rows → AreReceiversOf app rows
  pub switches : (app : AppData) (spans : SpanData) (bytes : List ℕ) (rows : List SwitchRow)
      → switches_of app spans bytes ≡ Ok rows → AreSwitchesOf app spans rows

-- A file that tells a value is read, and the next comes to the job.
pub file_read : {A : Type 0} (content : List ℕ → Option (List ℕ)) (file : List ℕ)
    (told_by : List ℕ → Result A BrokenRule) (name : List ℕ) (value : A) (next : A → Task)
    → IsTold content name told_by value
    → job_with content (judged_file file told_by name next) ≡ job_with content (next value)
file_read {A} content file told_by name value next is =
    let reads = λ (bytes : List ℕ). job_with content
    (if nat_le (length bytes) max_file_bytes then judgement file (told_by bytes) next
    else ends (refused_file file too_long)) in
    ap (λ (held : Option (List ℕ)). told held reads) is.held
    ∙ ap (λ (b : Bool). job_with content (if b then judgement file (told_by is.bytes) next
    else ends (refused_file file too_long))) (le-leb (length is.bytes) max_file_bytes is.short)
    ∙ ap (λ (result : Result A BrokenRule). job_with content (judgement file result next)) is.told

-- A judgement that comes to a job which refuses no file gives a value, and the next comes to that job.
pub value_kept : {A : Type 0} (content : List ℕ → Option (List ℕ)) (asked : Job)
    → asked.status ≢ refused_status → (file : List ℕ) (result : Result A BrokenRule)
    (next : A → Task) → job_with content (judgement file result next) ≡ Some asked
    → (value : A) × (result ≡ Ok value) × (job_with content (next value) ≡ Some asked)
value_kept content asked kept file (Ok value) next is = (value, refl, is)
value_kept content asked kept file (Err broken) next is =
    absurd (kept (ap (λ (one : Job). one.status)
    (sym (same_Some (refused_file file broken) asked is))))

-- A use case that is named is one of the application's.
pub use_kept : (content : List ℕ → Option (List ℕ)) (asked : Job) → asked.status ≢ refused_status
    → (app : AppData) (name : List ℕ) (next : UseId → Task)
    → job_with content (named_use app name next) ≡ Some asked
    → (u : UseId) × (slice_get (use_names app) u.0 ≡ Some name) × (u.0 < length app.uses)
    × (job_with content (next u) ≡ Some asked)
use_kept content asked kept app name next is =
    let cases : (found : Option ℕ) → position (bytes_eq name) (use_names app) ≡ found
    → job_with content (on_use name found next) ≡ Some asked
    → (u : UseId) × (slice_get (use_names app) u.0 ≡ Some name) × (u.0 < length app.uses)
    × (job_with content (next u) ≡ Some asked) = elim [
      | None ↦ λ at says. absurd (kept (ap (λ (one : Job). one.status)
          (sym (same_Some (refused_file (codes "use") (unknown_use name)) asked says))))
      | Some place ↦ λ at says.
          let first = position-Some (bytes_eq name) (use_names app) place name at in
          let same : name ≡ get_or (use_names app) place name =
          (bytes_eq-Decides name (get_or (use_names app) place name)).0 first.1 in
          let count = length-map app.uses (λ one. one.name) in (
            record { 0 = place },
            slice_get-get_or (use_names app) place name first.0 ∙ ap Some (sym same),
            omega (arith, count, first.0),
            says,
          )
    ] in
    cases (position (bytes_eq name) (use_names app)) refl is

module _ (tell : FilesTell) (content : List ℕ → Option (List ℕ)) (asked : Job)
    (kept : asked.status ≢ refused_status) where
  -- A task that reads a design comes to a job which refuses no file: the files told a design, and the
  -- next comes to the job.
  pub design_kept : (chip_name app_name : List ℕ) (next : Design → Task)
      → job_with content (design_file chip_name app_name next) ≡ Some asked
      → (design : Design) × IsDesignTold content chip_name app_name design
      × (job_with content (next design) ≡ Some asked)
  design_kept chip_name app_name next is =
      let (chip, chip_told, on_app) =
      file_kept content asked kept (codes "chip") chip_of chip_name _ is in
      let (app, app_told, at_end) =
      file_kept content asked kept (codes "app") (app_of chip) app_name _ on_app in
      let is_chip = tell.chip chip_told.bytes chip chip_told.told in
      let is_app = tell.app chip app_told.bytes app is_chip app_told.told in (
        record { chip = chip; app = app },
        record {
          chip_told = chip_told;
          app_told = app_told;
          chip_is = is_chip;
          app_is = is_app.0;
          of_chip = is_app.1;
        },
        at_end,
      )

  -- A job of `allocate` that refuses no file is the allocation of a chip and an application.
  pub allocated : (chip_name app_name : List ℕ)
      → job_with content (allocate_task chip_name app_name) ≡ Some asked
      → IsAllocated content chip_name app_name asked
  allocated chip_name app_name is =
      let (design, told, at_end) =
      design_kept chip_name app_name (λ one. ends (allocate_job one.chip one.app)) is in
      record {
        design = design;
        told = told;
        job_is = sym (same_Some (allocate_job design.chip design.app) asked at_end);
      }

module _ (tell : FilesTell) (runs_tell : RunsTell) (content : List ℕ → Option (List ℕ)) (asked : Job)
    (done : asked.status ≡ done_status) where
  -- A job that is done refuses no file, and no plan.
  pub not_refused : asked.status ≢ refused_status
  not_refused = λ refused. omega (arith, done, refused)

  -- Where a plan is read for a design, its file told one that is accepted, and the next comes to the job.
  pub plan_kept : (chip_name app_name plan_name : List ℕ) (design : Design)
      → IsDesignTold content chip_name app_name design → (next : PlanData → Task)
      → job_with content (accepted_file design.chip design.app plan_name next) ≡ Some asked
      → (plan : PlanData) × IsPlanTold content chip_name app_name plan_name design plan
      × (job_with content (next plan) ≡ Some asked)
  plan_kept chip_name app_name plan_name design told next is =
      let groups = groups_of design.app in
      let (plan, of_plan, on_check) = file_kept content asked not_refused (codes "plan")
      (plan_of design.chip design.app groups) plan_name _ is in
      let (accepted, at_end) = verdict_kept content asked done design.app
      (verdict_of design.chip design.app groups plan) _ on_check in (
        plan,
        record {
          design_told = told;
          plan_told = of_plan;
          accepted = record {
            chip_is = told.chip_is;
            app_is = told.app_is;
            plan_is = (plan_only design.chip design.app groups of_plan.bytes plan of_plan.told).1;
            accepted = (runs_tell.accepted design.chip told.chip_is design.app groups plan).0
                accepted;
          };
        },
        at_end,
      )

  -- Where the files of a run are read they told accepted inputs, and the next comes to the job.
  pub inputs_kept : (files : RunFiles) (cycles : ℕ) → cycles ≤ max_cycles
      → (next : TracedData → Task) → job_with content (traced_design files next) ≡ Some asked
      → (one : TracedData) × AreInputsTold content files cycles (traced_inputs one cycles)
      × (job_with content (next one) ≡ Some asked)
  inputs_kept files cycles few next is =
      let (design, told, on_run) = design_kept tell content asked not_refused files.chip files.app
      (λ design. traced_for files design next) is in
      let app = design.app in
      let (plan, planned, on_words) =
      plan_kept files.chip files.app files.plan design told _ on_run in
      let spans = spans_of design.chip app (groups_of app) plan in
      let (words, of_words, on_pulls) =
      file_kept content asked not_refused (codes "words") (words_of app) files.words _ on_words in
      let (pulls, of_pulls, on_switches) =
      file_kept content asked not_refused (codes "receivers") (receivers_of app) files.receivers _
      on_pulls in
      let (switches, of_switches, at_end) =
      file_kept content asked not_refused (codes "switches") (switches_of app spans) files.switches _
      on_switches in (
        record {
          design = design;
          run = record {
            plan = plan;
            traces = record { words = words; receivers = pulls; switches = switches };
          };
        },
        record {
          accepted = record {
            design = planned.accepted;
            of_chip = told.of_chip;
            words = runs_tell.words app of_words.bytes words of_words.told;
            pulls = runs_tell.receivers app of_pulls.bytes pulls of_pulls.told;
            switches = runs_tell.switches app spans of_switches.bytes switches of_switches.told;
            cycles = few;
          };
          chip = told.chip_told;
          app = told.app_told;
          plan = planned.plan_told;
          words = of_words;
          receivers = of_pulls;
          switches = of_switches;
          cycles_are = refl {a = cycles};
        },
        at_end,
      )

-- What jobs that read the files of a run tell.
abbrev pub RunsAreTold : Type 0
RunsAreTold = (content : List ℕ → Option (List ℕ)) (files : RunFiles) (cycles : ℕ)
    (next : TracedData → Task) (asked : Job) → cycles ≤ max_cycles
    → job_with content (traced_design files next) ≡ Some asked → asked.status ≡ done_status
    → (one : TracedData) × AreInputsTold content files cycles (traced_inputs one cycles)
    × (job_with content (next one) ≡ Some asked)

-- A job of `simulate` that is done stands on accepted inputs that the files told.
pub simulated : RunsAreTold → (outcome : Inputs → LogData) (content : List ℕ → Option (List ℕ))
    (files : RunFiles) (cycles : ℕ) (asked : Job) → cycles ≤ max_cycles
    → job_with content (simulate_task outcome files cycles) ≡ Some asked
    → asked.status ≡ done_status → IsSimulated outcome content files cycles asked
simulated tell outcome content files cycles asked few is done =
    let (one, told, at_end) = tell content files cycles
    (λ one. ends (simulation_job outcome (traced_inputs one cycles))) asked few is done in
    record {
      inputs = traced_inputs one cycles;
      told = told;
      job_is = sym (same_Some (simulation_job outcome (traced_inputs one cycles)) asked at_end);
    }
