-- Laws of the inputs of a run that were judged, one after the other.
use Rattle.std.proofs.Common.{◌≤◌, ℕ}
use Rattle.aeth_accepted.specs.Inputs.{AreAccepted}
use Rattle.aeth_app.specs.App.{IsAppOf}
use Rattle.aeth_base.specs.Limits.{max_cycles}
use Rattle.aeth_group.specs.Members.{groups_of}
use Rattle.aeth_plan.specs.{Plan.PlanData, Design.IsDesign, declared.design.Design.Design}
use Rattle.aeth_tables.specs.Switching.{spans_of}
use Rattle.aeth_trace.specs.{Receivers.AreReceiversOf, Switches.AreSwitchesOf, Words.AreWordsOf}
use Rattle.aeth_machine.specs.{RunInputs.inputs_of, declared.traces.Traces.Traces}

-- Inputs are accepted whose plan is accepted, and whose traces were read for them.
pub are_accepted : (design : Design) (plan : PlanData) (traces : Traces) (cycles : ℕ)
    → IsAppOf design.chip design.app → IsDesign design.chip design.app plan
    → AreWordsOf design.app traces.words → AreReceiversOf design.app traces.receivers
    → AreSwitchesOf design.app (spans_of design.chip design.app (groups_of design.app) plan)
    traces.switches → cycles ≤ max_cycles → AreAccepted (inputs_of design plan traces cycles)
are_accepted design plan traces cycles of_chip is_design words pulls switches few = record {
  design = is_design;
  of_chip = of_chip;
  words = words;
  pulls = pulls;
  switches = switches;
  cycles = few;
}
