-- What callers of the reader know.
use Rattle.std.proofs.Common.{◌≡◌, ℕ, List, Result, Ok, Err, All, IfOk}
use Rattle.std.proofs.lemmas.List.Elements.{All-from_recursion}
use Rattle.std.specs.List.{AllByRecursion}
use Rattle.aeth_base.specs.Faults.{Reads}
use Rattle.aeth_chip.specs.Chip.{ChipData}
use Rattle.aeth_app.specs.App.{AppData}
use Rattle.aeth_group.specs.Members.{GroupsData}
use Rattle.aeth_group.specs.declared.grant.{Grant.Grant, SeatLine.SeatLine}
use Rattle.aeth_plan.specs.{declared.fault.PlanFault.PlanFault, Plan.IsGrantOf, Plan.IsPlanOf}
use Rattle.aeth_plan.specs.{Plan.IsSeatOf, Plan.PlanData, PlanText.HasConnection, PlanText.HasSeat}
use Rattle.aeth_plan.specs.{PlanText.plan_of, PlanText.plan_text, Refusals.rule_of}
use Rattle.aeth_plan.proofs.{PlanReading.plan_only, PlanAgain.all_weaker}

-- The plan that was read is one for the chip, the application and its groups.
pub given_plan : (chip : ChipData) (app : AppData) (groups : GroupsData) (bytes : List ℕ)
    (result : Result PlanData PlanFault)
    → Reads rule_of (λ (plan : PlanData). plan) result (plan_of chip app groups bytes)
    → IfOk result (IsPlanOf chip app groups)
given_plan chip app groups bytes (Ok plan) gives = (plan_only chip app groups bytes plan gives).1
given_plan chip app groups bytes (Err fault) gives = tt

-- Its text is what was read.
pub given_text : (chip : ChipData) (app : AppData) (groups : GroupsData) (bytes : List ℕ)
    (result : Result PlanData PlanFault)
    → Reads rule_of (λ (plan : PlanData). plan) result (plan_of chip app groups bytes)
    → IfOk result (λ plan. plan_text chip app plan ≡ bytes)
given_text chip app groups bytes (Ok plan) gives = (plan_only chip app groups bytes plan gives).0
given_text chip app groups bytes (Err fault) gives = tt

-- The seats of a plan for a chip and an application may be printed.
pub seats_named : (chip : ChipData) (app : AppData) (seats : List SeatLine)
    → AllByRecursion (IsSeatOf chip app) seats → All (HasSeat chip app) seats
seats_named chip app seats of =
    All-from_recursion (HasSeat chip app) seats (all_weaker (IsSeatOf chip app) (HasSeat chip app)
    (λ seat is. record { core = is.core; ni = is.ni }) seats of)

-- So may its grants.
pub grants_named : (chip : ChipData) (app : AppData) (groups : GroupsData) (grants : List Grant)
    → AllByRecursion (IsGrantOf chip app groups) grants → All (HasConnection app) grants
grants_named chip app groups grants of =
    All-from_recursion (HasConnection app) grants (all_weaker (IsGrantOf chip app groups)
    (HasConnection app) (λ grant is. is.conn) grants of)
