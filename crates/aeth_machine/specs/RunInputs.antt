-- The inputs of a run, by what is judged together.
-- This project's own.
use Rattle.std.proofs.Common.{ℕ}
use Rattle.aeth_accepted.specs.Inputs.{Inputs, inputs_with}
use Rattle.aeth_plan.specs.{Plan.PlanData, declared.design.Design.Design}
use Rattle.aeth_machine.specs.declared.traces.Traces.{Traces}

-- The inputs of a run of so many cycles.
abbrev pub inputs_of : Design → PlanData → Traces → ℕ → Inputs
inputs_of design plan traces cycles =
    inputs_with design.chip design.app plan traces.words traces.receivers traces.switches cycles
