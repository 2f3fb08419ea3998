-- Laws of the search in levels: what it has found after some rounds, and at its end.
use Rattle.std.proofs.Common.{◌≡◌, ◌⊎◌, ◌∙◌, ◌+◌, ◌<◌, ◌≤◌, ℕ, zero, suc, List, Option, Some, None}
use Rattle.std.proofs.Common.{length, slice_get, refl, sym, ap, subst, inl, inr, arith, replicate}
use Rattle.std.proofs.lemmas.{List.length-replicate, Bool.cases_eq, Bool.cases_lt}
use Rattle.std.proofs.lemmas.{Nat.Bits.bit_at-zero}
use Rattle.aeth_chip.specs.Levels.{AreLevels, HasBit, HasLevel, HasLevelWithin, MarksLevel}
use Rattle.aeth_chip.specs.Levels.{ReachesGoal}
use Rattle.aeth_chip.proofs.ReachLemmas.{PassesRouters, reaches-none, reaches-step, step-reaches}
use Rattle.aeth_chip.proofs.SpreadLemmas.{count-less, count_none, level-cases, marks-cases}
use Rattle.aeth_chip.proofs.SpreadLemmas.{marks-kept}

-- After some rounds: each place within so many steps of the goal has its level, and the frontier,
-- a mask, has those to go on from.
pub record Found (Step : ℕ → ℕ → Type 0) (routers goal places rounds frontier : ℕ)
    (levels : List (Option ℕ)) : Type 0 where
  pub size : length levels ≡ places
  pub reached : (place level : ℕ) → HasLevel levels place level
      → ReachesGoal Step routers goal level place
  pub bound : (place level : ℕ) → HasLevel levels place level → level ≤ rounds
  pub least : (place level : ℕ) → level ≤ rounds → ReachesGoal Step routers goal level place
      → HasLevelWithin levels place level
  pub front : (place : ℕ) → HasBit frontier place → PassesRouters Step routers goal rounds place
  pub start : rounds ≡ 0 → HasBit frontier goal
  pub full : (place : ℕ) → place < routers → HasLevel levels place rounds → HasBit frontier place
  pub room : (place : ℕ) → HasBit frontier place → rounds + count_none levels ≤ places

-- What a round does: the fresh places, those without a level from which a link leads to the
-- frontier, get the level of the round, and the routers among them are the next frontier.
pub record IsRound (Step : ℕ → ℕ → Type 0) (routers rounds frontier fresh next : ℕ)
    (old new : List (Option ℕ)) : Type 0 where
  pub leads : (place : ℕ) → HasBit fresh place → (to : ℕ) × HasBit frontier to × Step place to
  pub none : (place : ℕ) → HasBit fresh place → slice_get old place ≡ Some None
  pub each : (place : ℕ) → (to : ℕ) × HasBit frontier to × Step place to
      → slice_get old place ≡ Some None → HasBit fresh place
  pub marks : MarksLevel fresh (suc rounds) old new
  pub goes_on : (place : ℕ) → HasBit next place → (place < routers) × HasBit fresh place
  pub routers_go : (place : ℕ) → place < routers → HasBit fresh place → HasBit next place

-- A router that is reached may be passed.
passes_from : (Step : ℕ → ℕ → Type 0) (routers goal steps place : ℕ) → place < routers
    → ReachesGoal Step routers goal steps place → PassesRouters Step routers goal steps place
passes_from Step routers goal zero place router reaches = reaches-none reaches
passes_from Step routers goal (suc steps) place router reaches = (router, reaches)

-- A place a step before a router with a level has a level itself, or the router is in the frontier.
before_router : (Step : ℕ → ℕ → Type 0) (routers goal places rounds : ℕ) (frontier : ℕ)
    (levels : List (Option ℕ)) → Found Step routers goal places rounds frontier levels
    → (place next level : ℕ) → Step place next → next < routers → HasLevel levels next level
    → HasLevelWithin levels place (suc level) ⊎ HasBit frontier next
before_router Step routers goal places rounds frontier levels found place next level step router
    at =
    elim (cases_eq level rounds) [
      | inl same ↦ inr (found.full next router (subst (λ (n : ℕ). HasLevel levels next n) same at))
      | inr other ↦
          let bound = found.bound next level at in
          let passes = passes_from Step routers goal level next router (found.reached next level
          at) in
          inl (found.least place (suc level) (omega arith)
          (step-reaches Step routers goal level place next step passes))
    ]

within-more : (levels : List (Option ℕ)) (place less more : ℕ) → less ≤ more
    → HasLevelWithin levels place less → HasLevelWithin levels place more
within-more levels place less more le (least, at, low) = (least, at, omega arith)

-- A place some steps before the goal has a level, or one step on is a place of the frontier.
before_frontier : (Step : ℕ → ℕ → Type 0) (routers goal places rounds : ℕ) (frontier : ℕ)
    (levels : List (Option ℕ)) → Found Step routers goal places rounds frontier levels
    → (place steps next : ℕ) → Step place next → PassesRouters Step routers goal steps next
    → ((level : ℕ) → level ≡ steps → ReachesGoal Step routers goal level next
    → HasLevelWithin levels next level)
    → HasLevelWithin levels place (suc steps) ⊎ HasBit frontier next
before_frontier Step routers goal places zero frontier levels found place zero next step passes
    within =
    inr (subst (λ (p : ℕ). HasBit frontier p) (sym passes) (found.start refl))
before_frontier Step routers goal places (suc rounds) frontier levels found place zero next step
    passes within =
    inl (found.least place 1 (omega arith)
    (step-reaches Step routers goal 0 place next step passes))
before_frontier Step routers goal places rounds frontier levels found place (suc steps) next step
    passes within =
    let near = within (suc steps) refl passes.1 in
    elim (before_router Step routers goal places rounds frontier levels found place next near.0 step
    passes.0 near.1) [
      | inl known ↦ inl (within-more levels place (suc near.0) (suc (suc steps))
          (let low = near.2 in omega arith) known)
      | inr here ↦ inr here
    ]

-- One more round.
pub found-more : (Step : ℕ → ℕ → Type 0) (routers goal places rounds frontier fresh next : ℕ)
    (levels new : List (Option ℕ)) → ((from to : ℕ) → Step from to → from < places)
    → Found Step routers goal places rounds frontier levels
    → IsRound Step routers rounds frontier fresh next levels new
    → Found Step routers goal places (suc rounds) next new
found-more Step routers goal places rounds frontier fresh next levels new placed found round =
    let marks = round.marks in
    let kept = marks-kept fresh (suc rounds) levels new marks round.none in
    let cases = marks-cases fresh (suc rounds) levels new marks in
    let reached : (place level : ℕ) → HasLevel new place level
    → ReachesGoal Step routers goal level place =
    λ place level at. elim (cases place level at) [
      | inl was ↦ found.reached place level was
      | inr (same, bit) ↦
          let (to, has, step) = round.leads place bit in
          subst (λ (n : ℕ). ReachesGoal Step routers goal n place) (sym same)
          (step-reaches Step routers goal rounds place to step (found.front to has))
    ] in
    let bound : (place level : ℕ) → HasLevel new place level → level ≤ suc rounds =
    λ place level at. elim (cases place level at) [
      | inl was ↦ let low = found.bound place level was in omega arith
      | inr (same, bit) ↦ omega arith
    ] in
    let within : (place level : ℕ) → HasLevelWithin levels place level
    → HasLevelWithin new place level =
    λ place level (least, at, low). (least, kept place least at, low) in
    let got : (place : ℕ) → (to : ℕ) × HasBit frontier to × Step place to
    → (k : ℕ) × HasLevel new place k =
    λ place (to, has, step).
    let low = placed place to step in
    let size = found.size in
    elim (level-cases levels place (omega arith)) [
      | inl none ↦ (suc rounds, marks.here place (round.each place (to, has, step) none))
      | inr (k, at) ↦ (k, kept place k at)
    ] in
    record {
      size = marks.size ∙ found.size;
      reached = reached;
      bound = bound;
      least = λ place level le reaches. elim (cases_lt rounds level) [
        | inr low ↦ within place level (found.least place level low reaches)
        | inl high ↦
            let same : level ≡ suc rounds = omega arith in
            let on = reaches-step Step routers goal rounds place
            (subst (λ (n : ℕ). ReachesGoal Step routers goal n place) same reaches) in
            elim (before_frontier Step routers goal places rounds frontier levels found place rounds
            on.0 on.1 on.2
            (λ n e. found.least on.0 n (omega arith))) [
              | inl near ↦ within place level
                  (within-more levels place (suc rounds) level (omega arith) near)
              | inr here ↦
                  let (k, at) = got place (on.0, here, on.1) in
                  let low = bound place k at in
                  (k, at, omega arith)
            ]
      ];
      front = λ place has.
          let (router, bit) = round.goes_on place has in
          (router, reached place (suc rounds) (marks.here place bit));
      start = λ none. absurd (omega arith);
      full = λ place router at. elim (cases place (suc rounds) at) [
        | inl was ↦ let high = found.bound place (suc rounds) was in absurd (omega arith)
        | inr (same, bit) ↦ round.routers_go place router bit
      ];
      room = λ place has.
          let bit = (round.goes_on place has).1 in
          let (to, on, step) = round.leads place bit in
          let room = found.room to on in
          let fewer = count-less levels new place (suc rounds) marks.size kept
          (round.none place bit) (marks.here place bit) in
          omega arith;
    }

-- With nothing left to go on from, each place that reaches the goal has its level.
all-least : (Step : ℕ → ℕ → Type 0) (routers goal places rounds : ℕ) (levels : List (Option ℕ))
    → Found Step routers goal places rounds 0 levels → (level place : ℕ)
    → ReachesGoal Step routers goal level place → HasLevelWithin levels place level
all-least Step routers goal places rounds levels found zero place reaches = reaches-none reaches
all-least Step routers goal places rounds levels found (suc level) place reaches =
    let (next, step, passes) = reaches-step Step routers goal level place reaches in
    elim (before_frontier Step routers goal places rounds 0 levels found place level next step
    passes
    (λ n e on. subst (λ (m : ℕ). HasLevelWithin levels next m) (sym e)
    (all-least Step routers goal places rounds levels found level next
    (subst (λ (m : ℕ). ReachesGoal Step routers goal m next) e on)))) [
      | inl near ↦ near
      | inr has ↦ absurd (omega (arith, has, bit_at-zero next))
    ]

-- The search has ended.
pub found-all : (Step : ℕ → ℕ → Type 0) (routers goal places rounds : ℕ) (frontier : ℕ)
    (levels : List (Option ℕ)) → Found Step routers goal places rounds frontier levels
    → frontier ≡ 0 → AreLevels Step routers goal places levels
found-all Step routers goal places rounds frontier levels found none =
    let ended = subst (λ (set : ℕ).
    Found Step routers goal places rounds set levels) none found in
    record {
      size = found.size;
      reached = found.reached;
      least = λ place level reaches.
          all-least Step routers goal places rounds levels ended level place reaches;
    }

replicate-none : (places place level : ℕ)
    → slice_get (replicate places None) place ≡ Some (Some level) → ⊥
replicate-none zero place level at = let none : None ≡ Some (Some level) = at in cc
replicate-none (suc places) zero level at = let none : Some None ≡ Some (Some level) = at in cc
replicate-none (suc places) (suc place) level at = replicate-none places place level at

count-replicate : (places : ℕ) → count_none (replicate places None) ≡ places
count-replicate zero = refl
count-replicate (suc places) = ap suc (count-replicate places)

-- Before the first round, no place has a level, and the goal is to go on from.
pub found-start : (Step : ℕ → ℕ → Type 0) (routers goal places frontier : ℕ)
    → HasBit frontier goal → ((place : ℕ) → HasBit frontier place → place ≡ goal)
    → Found Step routers goal places 0 frontier (replicate places None)
found-start Step routers goal places frontier here only = record {
  size = length-replicate places None;
  reached = λ place level at. absurd (replicate-none places place level at);
  bound = λ place level at. absurd (replicate-none places place level at);
  least = λ place level low reaches.
      let none : level ≡ 0 = omega arith in
      reaches-none (subst (λ (n : ℕ). ReachesGoal Step routers goal n place) none reaches);
  front = λ place has. only place has;
  start = λ same. here;
  full = λ place router at. absurd (replicate-none places place 0 at);
  room = λ place has. let count = count-replicate places in omega arith;
}

-- The places to go on from are the goal or routers.
pub front-below : {Step : ℕ → ℕ → Type 0} {routers goal places rounds frontier : ℕ}
    {levels : List (Option ℕ)} → Found Step routers goal places rounds frontier levels
    → goal < places → routers ≤ goal → (place : ℕ) → HasBit frontier place → place < places
front-below {Step} {routers} {goal} {places} {rounds} found within before place has =
    let go : (n : ℕ) → PassesRouters Step routers goal n place → place < places =
    elim [
      | zero ↦ λ same. omega arith
      | suc n ↦ λ passes. let low = passes.0 in omega arith
    ] in
    go rounds (found.front place has)

-- A place without a level, of a list that has none.
pub replicate-at : (places place : ℕ) → place < places
    → slice_get {X = Option ℕ} (replicate places None) place ≡ Some None
replicate-at zero place within = absurd (omega arith)
replicate-at (suc places) zero within = refl
replicate-at (suc places) (suc place) within = replicate-at places place (omega arith)
