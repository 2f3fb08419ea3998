-- What rows are judged with is made of a chip, an application, a plan and switches.
-- This project's own.
use Rattle.std.proofs.Common.{◌≡◌, ◌<◌, ℕ, List, [], map}
use Rattle.aeth_chip.specs.Chip.{ChipData}
use Rattle.aeth_app.specs.App.{AppData}
use Rattle.aeth_group.specs.declared.grant.Grant.{Grant}
use Rattle.aeth_plan.specs.{Plan.PlanData, Design.IsDesign}
use Rattle.aeth_trace.specs.declared.switches.SwitchRow.{SwitchRow}
use Rattle.aeth_reconf.specs.Timeline.{sessions_at}
use Rattle.aeth_report.specs.{Design.Design, Flows.Run, Flows.sessions_in, Sound.IsSound}
use Rattle.aeth_accepted.specs.Inputs.{Inputs, design_on, inputs_with, run_of}
use Rattle.aeth_audit.specs.{Reservations.Reservation, Tables.address_of}
use Rattle.aeth_audit.specs.{declared.judge.Judge.Judge}

-- The inputs of a run of a plan through switches, without words.
abbrev pub quiet : ChipData → AppData → PlanData → List SwitchRow → Inputs
quiet chip app plan switches = inputs_with chip app plan [] [] switches 0

-- That run.
abbrev pub run_on : ChipData → AppData → PlanData → List SwitchRow → Run
run_on chip app plan switches = run_of (quiet chip app plan switches)

-- The design by which rows are judged.
abbrev pub design_for : AppData → Judge → Design
design_for app judge = design_on judge.chip.now app judge.plan.now

-- What rows are judged with is that of an accepted plan through these switches.
pub record IsJudgeOf (app : AppData) (switches : List SwitchRow) (judge : Judge) : Type 0 where
  pub design : IsDesign judge.chip.now app judge.plan.now
  pub sound : IsSound (run_on judge.chip.now app judge.plan.now switches)
  pub sessions : (c : ℕ) → c < (design_for app judge).groups.connections
      → sessions_at judge.timeline.now c
      ≡ sessions_in (run_on judge.chip.now app judge.plan.now switches) c
  pub addresses : judge.table.now.addresses.items
      ≡ map (address_of judge.chip.now app judge.plan.now.seats) judge.plan.now.grants

-- The reservation of a place of a grant's path.
abbrev pub reservation_of : Grant → ℕ → Reservation
reservation_of grant place = record {
  channel = record { conn = grant.unit.conn; side = grant.side };
  group = grant.unit.group.0;
  place = place;
}
