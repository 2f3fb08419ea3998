-- A set is suitable exactly where a round starts at its first slot.
use Rattle.std.proofs.Common.{ℕ, ◌+◌, ◌<◌, ◌≤◌, ◌≡◌, suc, List, [], ◌∷◌, length, Contains, Option}
use Rattle.std.proofs.Common.{None, Some, IsSome, refl, subst, arith, IfNone, IfSome, IsTrue}
use Rattle.std.proofs.Common.{is_some}
use Rattle.aeth_base.proofs.Members.{Contains-here}
use Rattle.aeth_slots.specs.{SlotSet.Ascends, SlotSet.IsNextSlot, SlotSet.IsSlotSet, SlotSet.Slots}
use Rattle.aeth_slots.specs.{Choice.IsSuitable, Ways.IsFewest, Ways.IsRound}
use Rattle.aeth_slots.proofs.Ascending.{Ascends-bounds}
use Rattle.aeth_slots.proofs.ChoiceLemmas.{subsets-itself}
use Rattle.aeth_slots.proofs.Rounds.{round-length, round-suitable, round-whole, subset-round}

-- No set without slots is suitable.
pub none_suitable : (set : Slots) (need gap : ℕ)
    → ((slot : ℕ) → Contains set.slots slot → slot < 0) → IsSuitable need gap set → ⊥
none_suitable set need gap none suitable = no_slot set.slots none suitable.some where
  no_slot : (slots : List ℕ) → ((slot : ℕ) → Contains slots slot → slot < 0) → 1 ≤ length slots → ⊥
  no_slot [] none some = omega arith
  no_slot (x ∷ slots) none some = omega (arith, none x (Contains-here x slots))

-- Where a round starts at a slot, the whole set is one.
pub round_suitable : (set : Slots) (need gap first : ℕ) (found : Option ℕ) → IsSlotSet set
    → IfSome found (IsFewest set.slots (first + set.size) gap first)
    → (IsSome found → Contains set.slots first) → need ≤ length set.slots → IsTrue (is_some found)
    → IsSuitable need gap set
round_suitable set need gap first None is fewest member enough some = cc
round_suitable set need gap first (Some count) is fewest member enough some =
    let (way, is_way, short) = fewest.reaches in
    let round : IsRound set gap (first ∷ way) = (member refl, is_way) in
    round-suitable set need gap set.slots
    (round-whole set gap (suc (length way)) is (first ∷ way, round, refl)
    (round-length set gap (first ∷ way) is round)) enough

-- A round over all slots starts at the first one.
first_starts_it : (set : Slots) (gap first : ℕ) (slots : List ℕ) → Ascends 0 set.size slots
    → IsNextSlot slots 0 first → IsRound set gap slots → (way : List ℕ) × IsRound set gap (first ∷ way)
first_starts_it set gap first [] ascends next round = absurd round
first_starts_it set gap first (x ∷ way) (low, high, on) next round =
    let bounds =
    Ascends-bounds x set.size (x ∷ way) (omega arith, high, on) first next.member in
    let same : x ≡ first =
    omega (arith, next.least x (Contains-here x way) (omega arith), bounds.0) in
    (way, subst (λ (k : ℕ). IsRound set gap (k ∷ way)) same round)

-- Where the set is suitable, a round starts at its first slot.
pub suitable_round : (set : Slots) (need gap first : ℕ) (found : Option ℕ) → IsSlotSet set
    → IsNextSlot set.slots 0 first
    → IfNone found ((way : List ℕ) → IsRound set gap (first ∷ way) → ⊥) → IsSuitable need gap set
    → IsTrue (is_some found)
suitable_round set need gap first None is next never suitable =
    let (way, round) =
    first_starts_it set gap first set.slots is.ascends next
    (subset-round set need gap set is (subsets-itself set) suitable) in
    absurd (never way round)
suitable_round set need gap first (Some count) is next never suitable = refl
