-- Laws that lead from the promise to the headline.
use Rattle.std.proofs.Common.{◌≡◌, ◌≢◌, ◌∙◌, ◌<◌, ◌≤◌, ℕ, List, [], ◌∷◌, Option, Some, ap, arith}
use Rattle.std.proofs.Common.{refl, subst, sym, Contains}
use Rattle.aeth_accepted.specs.Inputs.{AreAccepted, Inputs}
use Rattle.aeth_alloc.specs.{Allocation.OutcomeData, Allocation.allocation, Allocation.last_state}
use Rattle.aeth_alloc.specs.{Channels.Design, Prices.prices_of, Refusals.IsRefused}
use Rattle.aeth_alloc.specs.{Refusals.RefusesExactly, declared.outcome.Refused.Refused}
use Rattle.aeth_answers.specs.{Job.Job, Job.done, Job.not_granted, Places.Places}
use Rattle.aeth_answers.specs.{Status.done_status, Status.not_granted_status}
use Rattle.aeth_answers.specs.{Status.read_fault_status, Status.refused_status, Task.job_with}
use Rattle.aeth_app.specs.App.{AppData, IsApp, IsAppOf}
use Rattle.aeth_base.specs.Limits.{max_cycles}
use Rattle.aeth_chain.specs.ItemNames.{AreItemNames}
use Rattle.aeth_chip.specs.Chip.{ChipData, IsChip}
use Rattle.aeth_cli.specs.{Commands.asked_job, Commands.command_of, Commands.job, Commands.task_of}
use Rattle.aeth_cli.specs.{Commands.Links.links_task, Promise.Promise, Told.IsLinksLog}
use Rattle.aeth_cli.specs.{Asked.Answers, Asked.AuditFiles, Asked.ChainFiles, Asked.Command}
use Rattle.aeth_cli.specs.{Asked.Contents, Asked.IfDone, Asked.IsGiven, Asked.ItemName}
use Rattle.aeth_cli.specs.{Asked.LoggedRun, Asked.SimulatedRun, Asked.UseFiles, Headline.Headline}
use Rattle.aeth_cli.specs.{Machines.network_outcome, Machines.network_outcomes}
use Rattle.aeth_cli.specs.{Printed.AreRefusalsPrinted, Printed.IsPlanPrinted, Printed.IsRunPrinted}
use Rattle.aeth_cli.specs.{Printed.allocated, Printed.design_of, Runs.HoldsOfRun}
use Rattle.aeth_command_laws.specs.{Chained.IsChained, Explained.IsConfirmed, Explained.IsExplained}
use Rattle.aeth_command_laws.specs.{Logged.IsAudited, Tabled.AreTablesTold, Told.IsAllocated}
use Rattle.aeth_command_laws.specs.{Told.IsSimulated}
use Rattle.aeth_design_commands.specs.Allocate.{allocate_task, outcome_job, refusals_text}
use Rattle.aeth_explain_commands.specs.Explain.{confirm_task, explain_task}
use Rattle.aeth_run_files.specs.declared.runs.RunFiles.{RunFiles}
use Rattle.aeth_group.specs.Members.{groups_of}
use Rattle.aeth_plan.specs.{PlanText.plan_text, Accepted.IsAccepted}
use Rattle.aeth_plan.specs.{declared.design.Design.Design as Given}
use Rattle.aeth_plan_commands.specs.{Audit.audit_task, Chain.chain_task, Tables.tables_task}
use Rattle.aeth_run_commands.specs.Simulate.{simulate_task}
use Rattle.aeth_io.specs.declared.shelf.Shelf as shelf
use Rattle.aeth_io.specs.declared.sink.Sink as sink
use Rattle.aeth_cli.specs.Asked as command

-- The job of words that are a command is that of its task.
command_job : (content : Contents) (said : Option Command) (one : Command) (asked : Job)
    → said ≡ Some one → asked_job network_outcomes content said ≡ Some asked
    → job_with content (task_of network_outcomes one) ≡ Some asked
command_job content said one asked is told =
    subst (λ (s : Option Command). asked_job network_outcomes content s ≡ Some asked) is told

-- Where the job of an outcome is done, no unit is refused, and it prints the plan.
outcome_done : (chip : ChipData) (app : AppData) (outcome : OutcomeData) (refused : List Refused)
    → (outcome_job chip app outcome refused).status ≡ done_status
    → (refused ≡ [])
    × (outcome_job chip app outcome refused ≡ done (plan_text chip app outcome.plan))
outcome_done chip app outcome [] is = (refl, refl)
outcome_done chip app outcome (first ∷ others) is = absurd (omega (arith, is))

-- Where it isn't granted, it tells the refused units.
outcome_refused : (chip : ChipData) (app : AppData) (outcome : OutcomeData)
    (refused : List Refused) → (outcome_job chip app outcome refused).status ≡ not_granted_status
    → outcome_job chip app outcome refused ≡ not_granted (refusals_text app refused)
outcome_refused chip app outcome [] is = absurd (omega (arith, is))
outcome_refused chip app outcome (first ∷ others) is = refl

-- The laws on which the headline stands.
pub record Laws : Type 0 where
  pub ends : (words : List (List ℕ)) (one : SimulatedRun)
      → command_of words ≡ Some (command.simulate one) → one.cycles ≤ max_cycles
  pub ends_tables : (words : List (List ℕ)) (one : SimulatedRun)
      → command_of words ≡ Some (command.simulate_tables one) → one.cycles ≤ max_cycles
  pub named : (words : List (List ℕ)) (files : ChainFiles) (name : List ℕ) (items : List ItemName)
      (cycles : ℕ) → command_of words ≡ Some (command.chain files name items cycles)
      → AreItemNames items
  pub holds : (inputs : Inputs) → AreAccepted inputs → HoldsOfRun inputs
  pub simulated : (content : Contents) (files : RunFiles) (cycles : ℕ) (asked : Job)
      → cycles ≤ max_cycles
      → job_with content (simulate_task network_outcome files cycles) ≡ Some asked
      → asked.status ≡ done_status → IsSimulated network_outcome content files cycles asked
  pub allocated : (content : Contents) (chip_name app_name : List ℕ) (asked : Job)
      → job_with content (allocate_task chip_name app_name) ≡ Some asked
      → asked.status ≢ refused_status → IsAllocated content chip_name app_name asked
  pub accepted : (chip : ChipData) (app : AppData) (prices : List ℕ) → IsChip chip → IsApp app
      → IsAppOf chip app → (allocation chip app (groups_of app) prices).refused ≡ []
      → IsAccepted chip app (groups_of app) (allocation chip app (groups_of app) prices).plan
  pub refused : (design : Design) → IsChip design.chip → IsApp design.app
      → IsAppOf design.chip design.app → (refused : Refused)
      → Contains (last_state design (groups_of design.app)).refused refused
      → IsRefused design (groups_of design.app) refused
  pub exactly : (design : Design) → IsChip design.chip → IsApp design.app
      → IsAppOf design.chip design.app → RefusesExactly design (groups_of design.app)
      (last_state design (groups_of design.app)).refused
  pub explained : (content : Contents) (chip_name app_name : List ℕ) (asked : Job)
      → job_with content (explain_task chip_name app_name) ≡ Some asked
      → asked.status ≢ refused_status → IsExplained content chip_name app_name asked
  pub confirmed : (content : Contents) (chip_name app_name cert_name : List ℕ) (asked : Job)
      → job_with content (confirm_task chip_name app_name cert_name) ≡ Some asked
      → asked.status ≢ refused_status → IsConfirmed content chip_name app_name cert_name asked
  pub tabled : (content : Contents) (files : UseFiles) (asked : Job)
      → job_with content (tables_task files) ≡ Some asked → asked.status ≡ done_status
      → AreTablesTold content files asked
  pub chained : (content : Contents) (files : ChainFiles) (name : List ℕ) (names : List ItemName)
      (cycles : ℕ) (asked : Job) → AreItemNames names
      → job_with content (chain_task files name names cycles) ≡ Some asked
      → asked.status ≡ done_status → IsChained content files name names cycles asked
  pub linked : (words : List (List ℕ)) (content : Contents) (one : LoggedRun) (asked : Job)
      → command_of words ≡ Some (command.links one)
      → job_with content (links_task one) ≡ Some asked → asked.status ≡ done_status
      → IsLinksLog content one asked
  pub audited : (content : Contents) (files : AuditFiles) (cycles : ℕ) (asked : Job)
      → job_with content (audit_task files cycles) ≡ Some asked
      → IsAudited content files cycles asked

-- The refusals of an allocation are exactly those after its last turn.
refused_exactly : (given : Given)
    → RefusesExactly (design_of given) (groups_of given.app)
    (last_state (design_of given) (groups_of given.app)).refused
    → RefusesExactly (design_of given) (groups_of given.app) (allocated given).refused
unfolding allocation
refused_exactly given exactly = exactly

-- What is refused by an allocation is refused after its last turn.
refused_last : (given : Given) (refused : Refused) → Contains (allocated given).refused refused
    → Contains (last_state (design_of given) (groups_of given.app)).refused refused
unfolding allocation
refused_last given refused listed = listed

-- ---- answers
module _ (laws : Laws) (content : Contents) (asked : Job) where
  -- A simulation that is done prints the log of a run.
  run_printed : (one : SimulatedRun) → one.cycles ≤ max_cycles
      → job_with content (simulate_task network_outcome one.files one.cycles) ≡ Some asked
      → IfDone (IsRunPrinted content one) asked
  run_printed one few is = λ done.
      let it = laws.simulated content one.files one.cycles asked few is done in
      record { stands_on = it; holds = laws.holds it.inputs it.told.accepted }

  module _ (chip app : List ℕ) (is : job_with content (allocate_task chip app) ≡ Some asked) where
    -- An allocation that is done prints an accepted plan.
    plan_printed : IfDone (IsPlanPrinted content chip app) asked
    plan_printed = λ finished.
        let it = laws.allocated content chip app asked is (λ refused. omega (arith, finished, refused)) in
        let given = it.design in
        let outcome = allocated given in
        let status_is : (outcome_job given.chip given.app outcome outcome.refused).status
        ≡ done_status =
        ap (λ (one : Job). one.status) (sym it.job_is) ∙ finished in
        let granted = outcome_done given.chip given.app outcome outcome.refused status_is in
        record {
          stands_on = it;
          text_is = it.job_is ∙ granted.1;
          accepted = laws.accepted given.chip given.app (prices_of given.app.price)
              it.told.chip_is it.told.app_is it.told.of_chip granted.0;
        }

    -- One that isn't granted prints the refused units.
    refusals_printed : command.IfNotGranted (AreRefusalsPrinted content chip app) asked
    refusals_printed = λ finished.
        let it = laws.allocated content chip app asked is (λ refused. omega (arith, finished, refused)) in
        let given = it.design in
        let outcome = allocated given in
        let status_is : (outcome_job given.chip given.app outcome outcome.refused).status
        ≡ not_granted_status =
        ap (λ (one : Job). one.status) (sym it.job_is) ∙ finished in
        record {
          stands_on = it;
          text_is = it.job_is
              ∙ outcome_refused given.chip given.app outcome outcome.refused status_is;
          refused = λ refused listed. laws.refused (design_of given) it.told.chip_is it.told.app_is
              it.told.of_chip refused (refused_last given refused listed);
          exactly = refused_exactly given (laws.exactly (design_of given) it.told.chip_is
              it.told.app_is it.told.of_chip);
        }

module _ {H O E : Type 0} (laws : Laws) (h : shelf.Ghosts H) (o : sink.Ghosts O) (e : sink.Ghosts E)
    (words : List (List ℕ)) (old new : Places H O E) (status : ℕ)
    (promise : Promise network_outcomes h o e words old new status) where
  abbrev content : Contents
  content = h.content old.shelf

  -- The job that is asked for is given.
  given : (asked : Job) → job network_outcomes content words ≡ Some asked
      → status < read_fault_status → IsGiven o e old new status asked
  given asked told below = record {
    status_is = promise.status_is below asked told;
    out = promise.out_is below asked told;
    err = promise.err_is below asked told;
  }

  -- What holds of the job of a command holds of its answer.
  answered : (one : Command) (Holds : Job → Type 0)
      → (command_of words ≡ Some one → (asked : Job)
      → job_with content (task_of network_outcomes one) ≡ Some asked → Holds asked)
      → Answers h o e words old new status one Holds
  answered one Holds holds = λ is asked told below. (
    given asked told below,
    holds is asked (command_job content (command_of words) one asked is told),
  )

  -- The headline, from the promise.
  pub headline : Headline content (Answers h o e words old new status)
  headline = record {
    simulates = λ one. answered (command.simulate one) _ (λ is asked told.
        run_printed laws content asked one (laws.ends words one is) told);
    simulates_tables = λ one. answered (command.simulate_tables one) _ (λ is asked told.
        run_printed laws content asked one (laws.ends_tables words one is) told);
    plans = λ chip app. answered (command.allocate chip app) _ (λ is asked told.
        plan_printed laws content asked chip app told);
    refuses = λ chip app. answered (command.allocate chip app) _ (λ is asked told.
        refusals_printed laws content asked chip app told);
    explains = λ chip app. answered (command.explain chip app) _ (λ is asked told.
        laws.explained content chip app asked told);
    confirms = λ chip app cert. answered (command.confirm chip app cert) _ (λ is asked told.
        laws.confirmed content chip app cert asked told);
    tables_bind = λ files. answered (command.tables files) _ (λ is asked told.
        laws.tabled content files asked told);
    chains_land = λ files name items cycles. answered (command.chain files name items cycles) _
        (λ is asked told. laws.chained content files name items cycles asked
        (laws.named words files name items cycles is) told);
    links_are_clean = λ one. answered (command.links one) _ (λ is asked told.
        laws.linked words content one asked is told);
    audits = λ files cycles. answered (command.audit files cycles) _ (λ is asked told.
        laws.audited content files cycles asked told);
  }
