-- Laws of the answer to an allocation.
use Rattle.std.proofs.Common.{◌≢◌, ◌<◌, List, [], ◌∷◌, arith}
use Rattle.aeth_alloc.specs.{Allocation.OutcomeData, declared.outcome.Refused.Refused}
use Rattle.aeth_app.specs.App.{AppData}
use Rattle.aeth_chip.specs.Chip.{ChipData}
use Rattle.aeth_answers.specs.Status.{read_fault_status, usage_status}
use Rattle.aeth_design_commands.specs.Allocate.{outcome_job}

module _ (chip : ChipData) (app : AppData) (outcome : OutcomeData) where
  -- The job of an allocation is below a read fault, and isn't usage.
  pub outcome_job-below : (refused : List Refused)
      → (outcome_job chip app outcome refused).status < read_fault_status
  outcome_job-below [] = omega arith
  outcome_job-below (first ∷ others) = omega arith

  pub outcome_job-command : (refused : List Refused)
      → (outcome_job chip app outcome refused).status ≢ usage_status
  outcome_job-command [] = λ usage. omega (arith, usage)
  outcome_job-command (first ∷ others) = λ usage. omega (arith, usage)
