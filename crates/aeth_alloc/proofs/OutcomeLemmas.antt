-- What is made of the last state is what the allocation comes to.
use Rattle.std.proofs.Common.{◌≡◌, ℕ, List, length, sym, subst, AllPairs, IfOk, Result, Ok, Err}
use Rattle.aeth_chip.specs.Chip.{ChipData, IsChip}
use Rattle.aeth_app.specs.App.{AppData, IsApp, IsAppOf}
use Rattle.aeth_group.specs.Members.{GroupsData, groups_of, units_of}
use Rattle.aeth_plan.{specs.Making.AreApart, specs.Making.IsPlanWith, proofs.MadePlans.made_once}
use Rattle.aeth_alloc.specs.{Allocation.OutcomeData, Allocation.allocation, Allocation.last_state}
use Rattle.aeth_alloc.specs.{Allocation.outcome_of, Channels.Design, Refusals.RefusesExactly}
use Rattle.aeth_alloc.specs.{Turns.State}
use Rattle.aeth_alloc.proofs.{LastStateLemmas.last-apart, LastStateLemmas.sound-turns}
use Rattle.aeth_alloc.proofs.{PlanLemmas.plan-with, LackLemmas.refuses-exactly}

-- The grants of the last state stand apart, so that a plan can be made of them.
pub state-apart : (design : Design) (groups : GroupsData) (state : State) → IsChip design.chip
    → IsApp design.app → IsAppOf design.chip design.app → groups ≡ groups_of design.app
    → state ≡ last_state design groups → AllPairs AreApart state.reserved.book.grants
state-apart design groups state chip app of are is =
    subst (λ (s : State). AllPairs AreApart s.reserved.book.grants) (sym is)
    (subst (λ (gs : GroupsData). AllPairs AreApart (last_state design gs).reserved.book.grants)
    (sym are) (last-apart design chip app of))

-- What is made of a state's seats and grants, with its refusals, is what the state comes to.
outcome-made : (design : Design) → IsChip design.chip → IsApp design.app
    → IsAppOf design.chip design.app → (outcome : OutcomeData)
    → IsPlanWith design.chip (last_state design (groups_of design.app)).reserved.seats
    (last_state design (groups_of design.app)).reserved.book.grants outcome.plan
    → outcome.refused ≡ (last_state design (groups_of design.app)).refused
    → outcome ≡ outcome_of design.chip (groups_of design.app)
    (last_state design (groups_of design.app))
outcome-made design chip app of outcome made same =
    let groups : GroupsData = groups_of design.app in
    let last : State = last_state design groups in
    let sound = sound-turns design chip app of (length (units_of groups)) in
    let plans = made_once design.chip last.reserved.seats last.reserved.book.grants outcome.plan _
    made (plan-with design groups last.reserved sound.reserved) in
    λ i. record { plan = plans i; refused = same i }

-- So it is the allocation.
pub allocation-made : (chip : ChipData) (app : AppData) (groups : GroupsData) (prices : List ℕ)
    (state : State) (outcome : OutcomeData) → IsChip chip → IsApp app → IsAppOf chip app
    → groups ≡ groups_of app
    → state ≡ last_state (record { chip = chip; app = app; prices = prices }) groups
    → IsPlanWith chip state.reserved.seats state.reserved.book.grants outcome.plan
    → outcome.refused ≡ state.refused → outcome ≡ allocation chip app groups prices
unfolding allocation
allocation-made chip app groups prices state outcome is_chip is_app of are is made same =
    let design : Design = record { chip = chip; app = app; prices = prices } in
    let all : state ≡ last_state design (groups_of app) =
    subst (λ (gs : GroupsData). state ≡ last_state design gs) are is in
    subst (λ (gs : GroupsData). outcome ≡ outcome_of chip gs (last_state design gs)) (sym are)
    (outcome-made design is_chip is_app of outcome
    (subst (λ (s : State). IsPlanWith chip s.reserved.seats s.reserved.book.grants outcome.plan)
    all made)
    (subst (λ (s : State). outcome.refused ≡ s.refused) all same))

-- What holds of the allocation holds of what is made.
pub of-made : {E : Type 0} (chip : ChipData) (app : AppData) (groups : GroupsData)
    (prices : List ℕ) → groups ≡ groups_of app → (P : GroupsData → OutcomeData → Type 0)
    → P (groups_of app) (allocation chip app (groups_of app) prices)
    → (answer : Result OutcomeData E)
    → IfOk answer (λ outcome. outcome ≡ allocation chip app groups prices)
    → IfOk answer (P groups)
of-made chip app groups prices are P holds (Err e) is = tt
of-made chip app groups prices are P holds (Ok outcome) is =
    subst (P groups) (sym is)
    (subst (λ (gs : GroupsData). P gs (allocation chip app gs prices)) (sym are) holds)

-- The allocation refuses exactly the units of which a channel has no candidate in its turn.
pub allocation-refuses : (chip : ChipData) (app : AppData) (prices : List ℕ) → IsChip chip
    → IsApp app → IsAppOf chip app
    → RefusesExactly (record { chip = chip; app = app; prices = prices }) (groups_of app)
    (allocation chip app (groups_of app) prices).refused
unfolding allocation
allocation-refuses chip app prices =
    refuses-exactly (record { chip = chip; app = app; prices = prices })
