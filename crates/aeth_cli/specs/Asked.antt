-- What a run of the program answers a command.
--
--   allocate .. audit      the commands
--   Contents, Says      what files have, and what is said of the answer to a command
--   IfDone, IfNotGranted, IfNotRefused      what holds of an answer with such a status
--   IsGiven, Answers      the answer to a command, and what holds of it
-- This project's own.
use Rattle.std.proofs.Common.{ℕ, ◌≡◌, ◌≢◌, ◌<◌, List, Option, Some}
use Rattle.aeth_answers.specs.{Job.Job, Job.err_text, Job.out_text, Places.Places}
use Rattle.aeth_answers.specs.{Status.done_status, Status.not_granted_status}
use Rattle.aeth_answers.specs.{Status.read_fault_status, Status.refused_status}
use Rattle.aeth_cli.specs.{Commands.command_of, Commands.job, Machines.network_outcomes}
use Rattle.aeth_io.specs.Sink.{appended}
pub use Rattle.aeth_chain.specs.declared.names.ItemName.{ItemName}
pub use Rattle.aeth_cli.specs.declared.commands.Command.{Command}
use Rattle.aeth_cli.specs.declared.commands.Command.TheVariants as command
pub use Rattle.aeth_cli.specs.declared.commands.links.LoggedRun.{LoggedRun}
use Rattle.aeth_design_commands.specs.declared.command.DesignCommand.TheVariants as design
use Rattle.aeth_explain_commands.specs.declared.command.ExplainCommand.TheVariants as refusals
use Rattle.aeth_io.specs.declared.shelf.Shelf as shelf
use Rattle.aeth_io.specs.declared.sink.Sink as sink
pub use Rattle.aeth_plan_commands.specs.declared.audit.AuditFiles.{AuditFiles}
pub use Rattle.aeth_plan_commands.specs.declared.chain.ChainFiles.{ChainFiles}
use Rattle.aeth_plan_commands.specs.declared.command.PlanCommand.TheVariants as plan
pub use Rattle.aeth_plan_commands.specs.declared.planned_uses.UseFiles.{UseFiles}
use Rattle.aeth_run_commands.specs.declared.command.RunCommand.TheVariants as run
pub use Rattle.aeth_run_commands.specs.declared.simulate.SimulatedRun.{SimulatedRun}

-- `allocate CHIP APP`.
abbrev pub allocate : List ℕ → List ℕ → Command
allocate chip app = command.Design (design.Allocate chip app)

-- `explain CHIP APP`, and `explain CHIP APP CERT`.
abbrev pub explain : List ℕ → List ℕ → Command
explain chip app = command.Explain (refusals.Explain chip app)

abbrev pub confirm : List ℕ → List ℕ → List ℕ → Command
confirm chip app cert = command.Explain (refusals.Confirm chip app cert)

-- `simulate` and `simulate-tables`, with the files of a run, its cycles and a turn.
abbrev pub simulate : SimulatedRun → Command
simulate one = command.Run (run.Simulate one)

abbrev pub simulate_tables : SimulatedRun → Command
simulate_tables one = command.Run (run.SimulateTables one)

-- `tables CHIP APP PLAN USE`.
abbrev pub tables : UseFiles → Command
tables files = command.Plan (plan.Tables files)

-- `chain CHIP APP PLAN USE CHAIN WORDS RECEIVERS CYCLES`.
abbrev pub chain : ChainFiles → List ℕ → List ItemName → ℕ → Command
chain files name items cycles = command.Plan (plan.Chain files name items cycles)

-- `links`, with the files of a run and its cycles.
abbrev pub links : LoggedRun → Command
links one = command.Links one

-- `audit CHIP APP PLAN SWITCHES LOG CYCLES`.
abbrev pub audit : AuditFiles → ℕ → Command
audit files cycles = command.Plan (plan.Audit files cycles)

-- The bytes of the file of a name, where they are told.
abbrev pub Contents : Type 0
Contents = List ℕ → Option (List ℕ)

-- What is said of the answer to a command.
abbrev pub Says : Type 1
Says = Command → (Job → Type 0) → Type 0

-- It is so of an answer that is done, that isn't granted, or that refuses no file.
abbrev pub IfDone : (Job → Type 0) → Job → Type 0
IfDone Holds asked = asked.status ≡ done_status → Holds asked

abbrev pub IfNotGranted : (Job → Type 0) → Job → Type 0
IfNotGranted Holds asked = asked.status ≡ not_granted_status → Holds asked

abbrev pub IfNotRefused : (Job → Type 0) → Job → Type 0
IfNotRefused Holds asked = asked.status ≢ refused_status → Holds asked

-- The run ended with the status of the answer, and just its text was written: to `out` where it is done,
-- else to `err`.
pub record IsGiven {H O E : Type 0} (o : sink.Ghosts O) (e : sink.Ghosts E) (old new : Places H O E)
    (status : ℕ) (asked : Job) : Type 0 where
  pub status_is : status ≡ asked.status
  pub out : o.written new.out ≡ appended (o.written old.out) (out_text asked)
  pub err : e.written new.err ≡ appended (e.written old.err) (err_text asked)

-- Where the words are this command, and the shelf tells the files on which it rests: unless a file can't be
-- read, a sink fails or memory is wanting, the run gives the answer, and this holds of it.
abbrev pub Answers : {H O E : Type 0} → shelf.Ghosts H → sink.Ghosts O → sink.Ghosts E
    → List (List ℕ) → Places H O E → Places H O E → ℕ → Says
Answers h o e words old new status one Holds = command_of words ≡ Some one → (asked : Job)
    → job network_outcomes (h.content old.shelf) words ≡ Some asked → status < read_fault_status
    → IsGiven o e old new status asked × Holds asked
