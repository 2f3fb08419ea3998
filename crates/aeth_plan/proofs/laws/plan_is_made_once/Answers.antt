use Rattle.std.proofs.lemmas.List.Sorted.{IsPermutation-refl}
use Rattle.aeth_plan.proofs.MadePlans.{grants_apart, made_once}
use Rattle.aeth_plan.proofs.laws.plan_is_made_once.Goals as goal

-- Two such plans have the same parts.
pub returns-clause-once : goal.returns-clause-once
returns-clause-once c = made_once

-- No grant of a plan comes before itself.
pub returns-clause-apart : goal.returns-clause-apart
returns-clause-apart c = grants_apart

-- The plan itself is one.
pub returns-clause-again : goal.returns-clause-again
returns-clause-again c = λ chip seats plan made is slots lines with.
    made_once chip seats plan.grants made plan with
    (record {
      slots = slots;
      seats = lines;
      grants = IsPermutation-refl plan.grants;
      in_order = is;
    })
