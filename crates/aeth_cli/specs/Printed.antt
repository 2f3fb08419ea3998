-- What is printed of runs and of allocations.
--
--   IsRunPrinted      the log of a run, and what holds of it
--   IsPlanPrinted, AreRefusalsPrinted      a plan, and the units that are refused
-- Allocation after UMARS (2005). The sentences are this project's own.
use Rattle.std.proofs.Common.{ℕ, ◌≡◌, Contains, List, Option}
use Rattle.aeth_alloc.specs.{Allocation.OutcomeData, Allocation.allocation, Channels.Design}
use Rattle.aeth_alloc.specs.{Prices.prices_of, Refusals.IsRefused, Refusals.RefusesExactly}
use Rattle.aeth_alloc.specs.{declared.outcome.Refused.Refused}
use Rattle.aeth_answers.specs.Job.{Job, done, not_granted}
use Rattle.aeth_command_laws.specs.Told.{IsAllocated, IsSimulated}
use Rattle.aeth_design_commands.specs.Allocate.{refusals_text}
use Rattle.aeth_group.specs.Members.{groups_of}
use Rattle.aeth_plan.specs.{PlanText.plan_text, Accepted.IsAccepted}
use Rattle.aeth_plan.specs.{declared.design.Design.Design as Given}
use Rattle.aeth_run_commands.specs.declared.simulate.SimulatedRun.{SimulatedRun}
use Rattle.aeth_cli.specs.{Machines.network_outcome, Runs.HoldsOfRun}

-- The allocation of an application on a chip, by its price.
abbrev pub allocated : Given → OutcomeData
allocated given =
    allocation given.chip given.app (groups_of given.app) (prices_of given.app.price)

-- What a refusal rests on.
abbrev pub design_of : Given → Design
design_of given =
    record { chip = given.chip; app = given.app; prices = prices_of given.app.price }

module _ (content : List ℕ → Option (List ℕ)) where
  -- The files told accepted inputs, the text is that of the log of their run, and the sentences on runs
  -- hold of it.
  pub record IsRunPrinted (one : SimulatedRun) (asked : Job) : Type 0 where
    pub stands_on : IsSimulated network_outcome content one.files one.cycles asked
    pub holds : HoldsOfRun stands_on.inputs

  -- The files told a chip and an application, and the text is a plan that is accepted for them.
  pub record IsPlanPrinted (chip_name app_name : List ℕ) (asked : Job) : Type 0 where
    pub stands_on : IsAllocated content chip_name app_name asked
    pub text_is : asked ≡ done (plan_text stands_on.design.chip stands_on.design.app
        (allocated stands_on.design).plan)
    pub accepted : IsAccepted stands_on.design.chip stands_on.design.app
        (groups_of stands_on.design.app) (allocated stands_on.design).plan

  -- The files told a chip and an application, the text has a line for each refused unit, and a unit is
  -- refused only where, in its turn, no admissible path leaves a suitable free slot set for its side,
  -- and wherever that is so.
  pub record AreRefusalsPrinted (chip_name app_name : List ℕ) (asked : Job) : Type 0 where
    pub stands_on : IsAllocated content chip_name app_name asked
    pub text_is : asked
        ≡ not_granted (refusals_text stands_on.design.app (allocated stands_on.design).refused)
    pub refused : (refused : Refused) → Contains (allocated stands_on.design).refused refused
        → IsRefused (design_of stands_on.design) (groups_of stands_on.design.app) refused
    pub exactly : RefusesExactly (design_of stands_on.design) (groups_of stands_on.design.app)
        (allocated stands_on.design).refused
