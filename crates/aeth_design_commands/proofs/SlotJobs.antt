-- The answers on slots and their latency are those to a command that has read its files.
use Rattle.std.proofs.Common.{◌≢◌, ◌<◌, ℕ, List, Bool, true, false, Option, Some, None, arith}
use Rattle.std.proofs.Common.{codes, if◌then◌else◌, length, nat_le}
use Rattle.aeth_answers.specs.Job.{Job, done, not_granted}
use Rattle.aeth_answers.specs.Status.{read_fault_status, usage_status}
use Rattle.aeth_slots.specs.{Choice.chosen, SlotSet.Slots}
use Rattle.aeth_design_commands.specs.Server.{latency_job, latency_text}
use Rattle.aeth_design_commands.specs.Slots.{chosen_job, chosen_text}

-- The job is below a read fault, and isn't usage.
abbrev pub IsJob : Job → Type 0
IsJob job = (job.status < read_fault_status) × (job.status ≢ usage_status)

text-is : (set : Option Slots) → IsJob (chosen_text set)
text-is None = (omega arith, λ usage. omega (arith, usage))
text-is (Some set) = (omega arith, λ usage. omega (arith, usage))

pub chosen_job-is : (need gap : ℕ) (free : Slots) → IsJob (chosen_job need gap free)
chosen_job-is need gap free = text-is (chosen free need gap)

-- A job that is done, or isn't granted.
granted-is : (test : Bool) (text refusal : List ℕ)
    → IsJob (if test then done text else not_granted refusal)
granted-is true text refusal = (omega arith, λ usage. omega (arith, usage))
granted-is false text refusal = (omega arith, λ usage. omega (arith, usage))

pub latency_job-is : (need links : ℕ) (set : Slots) → IsJob (latency_job need links set)
latency_job-is need links set =
    granted-is (nat_le need (length set.slots)) (latency_text need links set)
    (codes "too few slots\n")
