-- What a check's rules are handed of a plan.
use Rattle.std.proofs.Common.{◌≡◌, ◌↔◌, ◌∙◌, Result, Ok, Err, length, ap, sym, arith, All, IfOk}
use Rattle.std.proofs.lemmas.List.Elements.{All-from_recursion}
use Rattle.aeth_base.specs.declared.memory.NoMemory.{NoMemory}
use Rattle.aeth_chip.specs.Chip.{ChipData, IsChip}
use Rattle.aeth_app.specs.App.{AppData}
use Rattle.aeth_group.specs.Members.{GroupsData, groups_of}
use Rattle.aeth_plan.specs.{Plan.IsGrantOf, Plan.IsPlanOf, Plan.PlanData, Accepted.IsAccepted}
use Rattle.aeth_plan.proofs.PlanAgain.{all_weaker}
use Rattle.aeth_check.{specs.declared.verdict.Verdict.Verdict}
use Rattle.aeth_check.{specs.declared.verdict.Verdict.TheVariants.Accepted, specs.Calls.IsPlaced}
use Rattle.aeth_check.{specs.Calls.IsWithin, specs.Verdict.verdict_of, proofs.AcceptedLaws.accepts}

-- The connections of an application's groups are the application's.
pub connections_of : (app : AppData) (groups : GroupsData) → groups ≡ groups_of app
    → groups.connections ≡ length app.connections
unfolding groups_of
connections_of app groups is = ap (λ (g : GroupsData). g.connections) is

-- The grants name what there is.
pub are_within : (chip : ChipData) (app : AppData) (groups : GroupsData) (plan : PlanData)
    → IsPlanOf chip app groups plan → All (IsWithin chip app) plan.grants
are_within chip app groups plan of =
    All-from_recursion (IsWithin chip app) plan.grants
    (all_weaker (IsGrantOf chip app groups) (IsWithin chip app) (λ grant is. record {
      conn = is.conn;
      links = All-from_recursion _ grant.path is.links;
    }) plan.grants of.grants)

-- Their links are the chip's, and their slots are of its table size.
pub are_placed : (chip : ChipData) → IsChip chip → (app : AppData) (groups : GroupsData)
    (plan : PlanData) → IsPlanOf chip app groups plan → All (IsPlaced chip) plan.grants
are_placed chip is_chip app groups plan of =
    All-from_recursion (IsPlaced chip) plan.grants
    (all_weaker (IsGrantOf chip app groups) (IsPlaced chip) (λ grant is. record {
      links = All-from_recursion _ grant.path is.links;
      some = let slots = is_chip.some_slots in omega (arith, slots, is.size);
      size = is.size;
    }) plan.grants of.grants)

-- What is answered accepts exactly the plans that are accepted.
pub answer_accepts : (chip : ChipData) → IsChip chip → (app : AppData) (groups : GroupsData)
    (plan : PlanData) (result : Result Verdict NoMemory)
    → IfOk result (λ verdict. verdict ≡ verdict_of chip app groups plan)
    → IfOk result (λ verdict. (verdict ≡ Accepted) ↔ IsAccepted chip app groups plan)
answer_accepts chip is_chip app groups plan (Ok verdict) is =
    let law = accepts chip is_chip app groups plan in
    ((λ accepted. law.0 (sym is ∙ accepted)), (λ accepted. is ∙ law.1 accepted))
answer_accepts chip is_chip app groups plan (Err want) is = tt
