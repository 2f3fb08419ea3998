-- Laws of steps to a goal: a step that comes first.
use Rattle.std.proofs.Common.{◌≡◌, ◌<◌, ◌++◌, ℕ, zero, suc, List, [], ◌∷◌, length, refl, subst}
use Rattle.std.proofs.Common.{arith}
use Rattle.std.specs.List.{AllByRecursion}
use Rattle.aeth_chip.specs.{Joined.IsJoined, Levels.ReachesGoal}

-- A step to the goal reaches it.
pub reaches-one : {Step : ℕ → ℕ → Type 0} {routers goal steps : ℕ} (place : ℕ) → steps ≡ 1
    → Step place goal → ReachesGoal Step routers goal steps place
reaches-one place one step =
    record { between = []; are_routers = tt; joined = (step, tt); count = one }

-- A step to a router that reaches it does, in one step more.
pub reaches-more : {Step : ℕ → ℕ → Type 0} {routers goal steps : ℕ} (place next : ℕ)
    → Step place next → next < routers → ReachesGoal Step routers goal steps next
    → ReachesGoal Step routers goal (suc steps) place
reaches-more place next step router reaches = record {
  between = next ∷ reaches.between;
  are_routers = (router, reaches.are_routers);
  joined = (step, reaches.joined);
  count = let count = reaches.count in omega arith;
}

-- The goal lies just so many steps on from a place that is the goal or a router's.
abbrev pub PassesRouters : (ℕ → ℕ → Type 0) → ℕ → ℕ → ℕ → ℕ → Type 0
PassesRouters Step routers goal zero place = place ≡ goal
PassesRouters Step routers goal (suc steps) place =
    (place < routers) × ReachesGoal Step routers goal (suc steps) place

-- A step to such a place reaches the goal in one step more.
pub step-reaches : (Step : ℕ → ℕ → Type 0) (routers goal steps place next : ℕ) → Step place next
    → PassesRouters Step routers goal steps next → ReachesGoal Step routers goal (suc steps) place
step-reaches Step routers goal zero place next step passes =
    reaches-one place refl (subst (Step place) passes step)
step-reaches Step routers goal (suc steps) place next step (router, reaches) =
    reaches-more place next step router reaches

-- What reaches the goal in one step more has such a step.
step_of : (Step : ℕ → ℕ → Type 0) (routers goal steps place : ℕ) (between : List ℕ)
    → AllByRecursion (λ p. p < routers) between
    → IsJoined (λ next p. Step p next) (λ p. p) place (between ++ goal ∷ [])
    → steps ≡ length between
    → (next : ℕ) × Step place next × PassesRouters Step routers goal steps next
step_of Step routers goal zero place [] low joined count = (goal, joined.0, refl)
step_of Step routers goal zero place (next ∷ between) low joined count = absurd (omega arith)
step_of Step routers goal (suc steps) place [] low joined count = absurd (omega arith)
step_of Step routers goal (suc steps) place (next ∷ between) low joined count = (
  next,
  joined.0,
  (
    low.0,
    record { between = between; are_routers = low.1; joined = joined.1; count = omega arith },
  ),
)

pub reaches-step : (Step : ℕ → ℕ → Type 0) (routers goal steps place : ℕ)
    → ReachesGoal Step routers goal (suc steps) place
    → (next : ℕ) × Step place next × PassesRouters Step routers goal steps next
reaches-step Step routers goal steps place reaches =
    let count = reaches.count in
    step_of Step routers goal steps place reaches.between reaches.are_routers reaches.joined
    (omega arith)

-- No place reaches the goal in no step.
pub reaches-none : {Step : ℕ → ℕ → Type 0} {routers goal place : ℕ} {P : Type 0}
    → ReachesGoal Step routers goal 0 place → P
reaches-none reaches = let count = reaches.count in absurd (omega arith)
