-- What `tables` prints, and what it binds.
--
--   RunsBy      a session's flow is what a row says, with what is promised beside it
--   printed_lines, printed_line, IsBound      the line of a channel is printed, and a session runs by it
--   IsBinding, AreTablesTold      a job is the tables of a use case, and they bind each run of the plan
-- This project's own.
use Rattle.std.proofs.Common.{ℕ, ◌≡◌, ◌<◌, IsTrue, List, Contains, Option, Some, length, slice_get}
use Rattle.aeth_accepted.specs.Inputs.{AreAccepted, IsTabled, run_of}
use Rattle.aeth_answers.specs.Job.{Job}
use Rattle.aeth_base.specs.declared.ids.Channel.{Channel}
use Rattle.aeth_group.specs.Members.{group_at, groups_of, has_at}
use Rattle.aeth_plan.specs.Plan.{connection_names, name_at}
use Rattle.aeth_machine.specs.{RunInputs.inputs_of, declared.traces.Traces.Traces}
use Rattle.aeth_report.specs.Flows.{Flow, Run, flow_of, sessions_in}
use Rattle.aeth_report.specs.declared.session.Session.{Session}
use Rattle.aeth_ni.specs.declared.row.ChannelRow.{ChannelRow}
use Rattle.aeth_server.specs.{Shape.channel_latency, declared.shape.ChannelShape.ChannelShape}
use Rattle.aeth_tables.specs.{Lines.queue_line, TableText.lines_with, TableText.promised}
use Rattle.aeth_tables.specs.{TableText.promised_of, Tables.tables_of}
use Rattle.aeth_trace.specs.Switches.{use_names}
use Rattle.aeth_plan_commands.specs.{PlannedUses.PlannedUseData, Tables.tables_job}
use Rattle.aeth_plan_commands.specs.{declared.planned_uses.UseFiles.UseFiles}
use Rattle.aeth_command_laws.specs.Told.{IsPlanTold}

-- A session of a channel runs by a row, with what is promised beside it: its flits have the row's route and
-- go to its remote queue, in its slots, with its credits; and its words are due by the rate and the
-- latency that are promised.
pub record RunsBy (row : ChannelRow) (shape : ChannelShape) (flow : Flow) : Type 0 where
  pub tabled : IsTabled row flow
  pub rate : flow.server.shape.rate ≡ (promised (row, shape)).rate
  pub latency : channel_latency flow.server.shape ≡ (promised (row, shape)).latency

-- The lines of the tables of a use case.
abbrev pub printed_lines : PlannedUseData → List (List ℕ)
printed_lines one =
    let tables = tables_of one.design.chip one.design.app (groups_of one.design.app) one.plan
    one.use_case in
    lines_with one.design.chip one.design.app one.use_case.0
    (promised_of tables.rows tables.shapes)

-- The line of a row, with what is promised.
abbrev pub printed_line : PlannedUseData → ChannelRow → ChannelShape → List ℕ
printed_line one row shape = queue_line (name_at one.design.chip.nis row.ni.0)
    (name_at (connection_names one.design.app) row.channel.conn.0) (promised (row, shape))

-- A line of the channel is printed, and the session runs by what it says.
pub record IsBound (one : PlannedUseData) (run : Run) (channel : Channel) (session : Session)
    : Type 0 where
  pub row : ChannelRow
  pub shape : ChannelShape
  pub own : row.channel ≡ channel
  pub printed : Contains (printed_lines one) (printed_line one row shape)
  pub runs : RunsBy row shape (flow_of run channel session)

-- In each run of the plan the sessions of a use case's channels, by the grants of its group, are bound.
abbrev pub IsBinding : PlannedUseData → Type 0
IsBinding one = (traces : Traces) (cycles : ℕ)
    → AreAccepted (inputs_of one.design one.plan traces cycles)
    → (channel : Channel) (session : Session)
    → Contains (sessions_in (run_of (inputs_of one.design one.plan traces cycles)) channel.conn.0)
    session
    → IsTrue (has_at (groups_of one.design.app) one.use_case.0 channel.conn.0)
    → session.group.0 ≡ group_at (groups_of one.design.app) one.use_case.0
    → IsBound one (run_of (inputs_of one.design one.plan traces cycles)) channel session

-- The job is the tables of a use case by an accepted plan, which the files told, and they bind each run
-- of the plan.
pub record AreTablesTold (content : List ℕ → Option (List ℕ)) (files : UseFiles) (asked : Job)
    : Type 0 where
  pub one : PlannedUseData
  pub told : IsPlanTold content files.chip files.app files.plan one.design one.plan
  pub use_case : one.use_case.0 < length one.design.app.uses
  pub named : slice_get (use_names one.design.app) one.use_case.0 ≡ Some files.name
  pub job_is : asked ≡ tables_job one
  pub binds : IsBinding one
