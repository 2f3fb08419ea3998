-- The steps of the search for the chosen set: the fewest slots of a way, the least first slot and
-- the least size of a round, and the first round.
use Rattle.std.proofs.Common.{ℕ, ◌+◌, ◌-◌, ◌<◌, ◌≤◌, ◌≡◌, ◌∙◌, min, max, suc, List, [], ◌∷◌, length}
use Rattle.std.proofs.Common.{Contains, sym, refl, subst, inl, inr, arith}
use Rattle.std.proofs.lemmas.Bool.{cases_eq, cases_lt}
use Rattle.aeth_slots.specs.SlotSet.{Slots, IsSlotSet}
use Rattle.aeth_slots.specs.Choice.{IsSuitable, subsets, IsChosen}
use Rattle.aeth_slots.specs.Ways.{IsWay, ReachesWithin, IsEarliest, IsFewest, IsRound, HasRound}
use Rattle.aeth_slots.specs.Ways.{IsLeastSize, IsFirstMember, IsFirstRound}
use Rattle.aeth_slots.proofs.Ways.{exact_from_within, way_nearer, way_end}
use Rattle.aeth_slots.proofs.ChoiceLemmas.{subsets-itself}
use Rattle.aeth_slots.proofs.Rounds.{set_of, free_below, round-subset, round-suitable, subset-round}
use Rattle.aeth_slots.proofs.Rounds.{round-up, round-length}

-- ---- the fewest slots

-- What the search for the fewest slots keeps: the earliest slot, and that no way has fewer.
pub record IsSearching (free : List ℕ) (end gap first count earliest : ℕ) : Type 0 where
  pub is_earliest : IsEarliest free end gap count earliest
  pub fewest : (way : List ℕ) → IsWay free end gap first way → count ≤ length way

-- Where it comes later, one slot more is needed.
pub fewest_more : (free : List ℕ) (end gap first count earliest : ℕ) → Contains free first
    → IsSearching free end gap first count earliest → first < earliest
    → (way : List ℕ) → IsWay free end gap first way → count + 1 ≤ length way
fewest_more free end gap first count earliest has is after way is_way =
    let least = is.fewest way is_way in
    elim (cases_lt count (length way)) [
      | inl more ↦ omega arith
      | inr enough ↦ absurd (omega (arith, is.is_earliest.earlier first has (way, is_way, enough)))
    ]

-- No way leads over a stretch of a gap without free slots.
pub none_crosses : (free : List ℕ) (end gap to from : ℕ) (way : List ℕ)
    → ((slot : ℕ) → Contains free slot → slot < to → slot + gap < to) → to ≤ end
    → Contains free from → from < to → IsWay free end gap from way → ⊥
none_crosses free end gap to from [] stretch past has before is_way =
    omega (arith, stretch from has before)
none_crosses free end gap to from (next ∷ rest) stretch past has before (member, after, near, on) =
    none_crosses free end gap to next rest stretch past member
    (omega (arith, stretch from has before)) on

-- ---- the least first slot

-- Of the starts of rounds over so many further slots none comes before the first that allows at
-- most so many.
pub first_starts : (free : Slots) (gap more first : ℕ) → IsSlotSet free
    → HasRound free gap (more + 1) → Contains free.slots first
    → ReachesWithin free.slots (first + free.size) gap first more
    → ((way : List ℕ) (start : ℕ) → IsRound free gap (start ∷ way) → length way ≡ more
    → first ≤ start)
    → IsFirstMember free gap more first
first_starts free gap more first is ([], round, count) has within least = absurd round
first_starts free gap more first is (start ∷ way, round, count) has within least =
    let order : first ≤ start = least way start round (omega arith) in
    let nearer : IsWay free.slots (first + free.size) gap start way =
    way_nearer free.slots (start + free.size) (first + free.size) gap start way (omega arith)
    round.1 in
    record {
      member = has;
      reaches = exact_from_within free.slots (first + free.size) gap more first start
          (λ slot member. let below = free_below {free = free} is slot member in omega arith)
          round.0 order within (way, nearer, omega arith);
      least = least;
    }

-- A round starts below the size.
pub none_starts : (free : Slots) (gap more first : ℕ) → IsSlotSet free
    → HasRound free gap (more + 1) → free.size ≤ first
    → ((way : List ℕ) (start : ℕ) → IsRound free gap (start ∷ way) → length way ≡ more
    → first ≤ start) → ⊥
none_starts free gap more first is ([], round, count) past least = round
none_starts free gap more first is (start ∷ way, round, count) past least =
    let below = free_below {free = free} is start round.0 in
    omega (arith, least way start round (omega arith))

-- ---- the least size

-- What the search for the least size keeps: a round of that size, and that none from an earlier
-- start is shorter.
pub record IsLeastSoFar (free : Slots) (gap start least : ℕ) : Type 0 where
  pub has : HasRound free gap least
  pub below : (first : ℕ) (way : List ℕ) → first < start → IsRound free gap (first ∷ way)
      → least ≤ suc (length way)

-- All free slots together are a round at first.
pub least_starts : (free : Slots) (gap : ℕ) → IsSlotSet free → IsSuitable 1 gap free
    → IsLeastSoFar free gap 0 (length free.slots)
least_starts free gap is suitable = record {
  has = (free.slots, subset-round free 1 gap free is (subsets-itself free) suitable, refl);
  below = λ first way before round. absurd (omega arith);
}

-- A start from which there is a round of fewer slots.
pub least_with : (free : Slots) (gap start least fewest : ℕ) → Contains free.slots start
    → IsFewest free.slots (start + free.size) gap start fewest
    → IsLeastSoFar free gap start least → IsLeastSoFar free gap (start + 1) (min least (fewest + 1))
least_with free gap start least fewest has is so_far = record {
  has = elim (cases_lt least (fewest + 1)) [
    | inl less ↦ subst (HasRound free gap)
        (let same : least ≡ min least (fewest + 1) = omega arith in same) so_far.has
    | inr more ↦
        let (way, is_way, short) = is.reaches in
        let long = is.fewest way is_way in
        (start ∷ way, (has, is_way), omega arith)
  ];
  below = λ first way before round. elim (cases_eq first start) [
    | inl same ↦
        (let long =
        is.fewest way
        (subst (λ (k : ℕ). IsWay free.slots (k + free.size) gap k way) same round.1) in
        omega arith)
    | inr other ↦ (let earlier = so_far.below first way (omega arith) round in omega arith)
  ];
}

-- A start from which there is none.
pub least_without : (free : Slots) (gap start least : ℕ)
    → ((way : List ℕ) → IsRound free gap (start ∷ way) → ⊥) → IsLeastSoFar free gap start least
    → IsLeastSoFar free gap (start + 1) least
least_without free gap start least never so_far = record {
  has = so_far.has;
  below = λ first way before round. elim (cases_eq first start) [
    | inl same ↦ absurd (never way (subst (λ (k : ℕ). IsRound free gap (k ∷ way)) same round))
    | inr other ↦ so_far.below first way (omega arith) round
  ];
}

least_of_all : (free : Slots) (gap start least : ℕ) → IsSlotSet free → min free.size gap ≤ start
    → IsLeastSoFar free gap start least
    → (round : List ℕ) → IsRound free gap round → least ≤ length round
least_of_all free gap start least is all so_far [] round = absurd round
least_of_all free gap start least is all so_far (first ∷ way) round =
    let below = free_below {free = free} is in
    let within = below first round.0 in
    let near : first + free.size < free.size + gap =
    way_end free.slots (first + free.size) gap free.size first way below within round.1 in
    so_far.below first way (omega arith) round

-- No round starts past the size, nor past the gap.
pub least_ends : (free : Slots) (need gap start least : ℕ) → IsSlotSet free
    → min free.size gap ≤ start → IsLeastSoFar free gap start least
    → IsLeastSize free need gap least
least_ends free need gap start least is all so_far = record {
  has = so_far.has;
  least = λ round is_round.
      omega (arith, least_of_all free gap start least is all so_far round is_round);
}

-- A round of no more slots than are needed.
pub least_enough : (free : Slots) (need gap start least : ℕ) → least ≤ need
    → IsLeastSoFar free gap start least → IsLeastSize free need gap least
least_enough free need gap start least enough so_far = record {
  has = so_far.has;
  least = λ round is_round. omega arith;
}

-- ---- the chosen set

-- There is a round of as many slots as are needed, or as the least round has.
pub round_needed : (free : Slots) (need gap least : ℕ) → IsSlotSet free → IsSuitable need gap free
    → IsLeastSize free need gap least → HasRound free gap (max least need)
round_needed free need gap least is suitable is_least =
    let (round, is_round, count) = is_least.has in
    let room = round-length free gap round is is_round in
    let enough = suitable.enough in
    subst (HasRound free gap) (let same : least + (max least need - least) ≡ max least need =
    omega arith in same)
    (round-up free gap least (max least need - least) is is_least.has (omega arith))

-- The first round of so many slots is the chosen set.
pub round_chosen : (free set : Slots) (need gap least count : ℕ) → IsSlotSet free
    → IsLeastSize free need gap least → count ≡ max least need → set.size ≡ free.size
    → IsFirstRound free gap count set.slots → IsChosen free need gap set
round_chosen free set need gap least count is is_least count_is size first =
    let same : set_of free set.slots ≡ set = λ i. record { size = sym size i; slots = set.slots } in
    record {
      subset =
          subst (Contains (subsets free)) same (round-subset free gap set.slots is first.round_is);
      suitable =
          subst (IsSuitable need gap) same
          (round-suitable free need gap set.slots first.round_is
          (omega (arith, first.count_is)));
      fewest = λ other within fits.
          let round = subset-round free need gap other is within fits in
          omega (arith, first.count_is, is_least.least other.slots round, fits.enough);
      first = λ other within fits counts. first.first other.slots
          (subset-round free need gap other is within fits) (counts ∙ first.count_is);
    }
