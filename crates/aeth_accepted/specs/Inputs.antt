-- The inputs of a run as they are accepted: a plan for a chip and an application, and traces that were
-- read for them.
--
--   Inputs, AreAccepted      the inputs, and what holds of accepted ones
--   inputs_with      the inputs that have these
--   design_on, design_of, run_of      the design of a plan, that of inputs, and the run of inputs
--   row_at      the row of a channel in a group
--   IsTabled      a flow has what a row says
-- This project's own.
use Rattle.std.proofs.Common.{◌≡◌, ◌≤◌, ℕ, List}
use Rattle.aeth_base.specs.{Limits.max_cycles, declared.ids.Channel.Channel}
use Rattle.aeth_server.specs.Shape.{buffer_of}
use Rattle.aeth_chip.specs.Chip.{ChipData}
use Rattle.aeth_app.specs.App.{AppData, IsAppOf}
use Rattle.aeth_group.specs.Members.{groups_of}
use Rattle.aeth_plan.specs.{Plan.PlanData, Design.IsDesign}
use Rattle.aeth_ni.specs.declared.row.ChannelRow.{ChannelRow}
use Rattle.aeth_trace.specs.{Receivers.AreReceiversOf, Switches.AreSwitchesOf, Words.AreWordsOf}
use Rattle.aeth_trace.specs.{declared.receivers.PullRow.PullRow}
use Rattle.aeth_trace.specs.{declared.switches.SwitchRow.SwitchRow, declared.words.WordRow.WordRow}
use Rattle.aeth_report.specs.{Channels.sender, Design.Design, Design.connection_at, Design.grant_at}
use Rattle.aeth_report.specs.{Design.queue_at, Design.remote_at, Design.seat_at, Design.shape_at}
use Rattle.aeth_report.specs.{Flows.Flow, Flows.Run, Routes.route_along}
use Rattle.aeth_tables.specs.Switching.{spans_of}

-- A chip, an application and a plan, the rows of the three traces, and the number of cycles.
pub record Inputs : Type 0 where
  pub chip : ChipData
  pub app : AppData
  pub plan : PlanData
  pub words : List WordRow
  pub pulls : List PullRow
  pub switches : List SwitchRow
  pub cycles : ℕ

-- The inputs of a chip, an application and a plan for it, the words that are offered, how receivers
-- take them, the switches between use cases, and the number of cycles.
abbrev pub inputs_with : ChipData → AppData → PlanData → List WordRow → List PullRow
    → List SwitchRow → ℕ → Inputs
inputs_with chip app plan words pulls switches cycles = record {
  chip = chip;
  app = app;
  plan = plan;
  words = words;
  pulls = pulls;
  switches = switches;
  cycles = cycles;
}

-- The design of a plan for a chip and an application: with its seats and its grants.
abbrev pub design_on : ChipData → AppData → PlanData → Design
design_on chip app plan = record {
  chip = chip;
  app = app;
  groups = groups_of app;
  seats = plan.seats;
  grants = plan.grants;
}

-- The design of inputs.
abbrev pub design_of : Inputs → Design
design_of inputs = design_on inputs.chip inputs.app inputs.plan

-- The run of inputs: by the plan's design, with switches that take what the plan says.
abbrev pub run_of : Inputs → Run
run_of inputs = record {
  design = design_of inputs;
  spans = spans_of inputs.chip inputs.app (groups_of inputs.app) inputs.plan;
  words = inputs.words;
  pulls = inputs.pulls;
  switches = inputs.switches;
  cycles = inputs.cycles;
}

-- Accepted inputs: the plan is accepted for the chip and the application, each trace was read for the
-- application, the switches with the plan's spans, and the run isn't too long.
pub record AreAccepted (inputs : Inputs) : Type 0 where
  pub design : IsDesign inputs.chip inputs.app inputs.plan
  pub of_chip : IsAppOf inputs.chip inputs.app
  pub words : AreWordsOf inputs.app inputs.words
  pub pulls : AreReceiversOf inputs.app inputs.pulls
  pub switches : AreSwitchesOf inputs.app (run_of inputs).spans inputs.switches
  pub cycles : inputs.cycles ≤ max_cycles

-- The row of a channel in a group, by which it is in the tables of its interface.
abbrev pub row_at : Design → ℕ → Channel → ChannelRow
row_at design group channel =
    let core = sender (connection_at design channel.conn) channel.side in
    let grant = grant_at design channel group in
    record {
      channel = channel;
      ni = (seat_at design core).ni;
      queue = queue_at design core channel.conn;
      slots = grant.slots;
      route = route_along design.chip.links grant.path;
      remote = remote_at design channel;
      credits = buffer_of (shape_at design channel group);
    }

-- A flow is what a row of the tables says: it has the row's route, lands in the row's remote queue, and
-- is served in the row's slots with the row's credits as its buffer.
pub record IsTabled (row : ChannelRow) (flow : Flow) : Type 0 where
  pub route : flow.route ≡ row.route
  pub remote : flow.remote ≡ row.remote
  pub slots : flow.server.shape.slots ≡ row.slots.slots
  pub buffer : flow.server.buffer ≡ row.credits
