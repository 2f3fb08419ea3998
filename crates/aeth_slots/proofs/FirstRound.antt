-- The steps of the search for the first round: the least first slot, and the first way from there.
use Rattle.std.proofs.Common.{ℕ, ◌+◌, ◌-◌, ◌<◌, ◌≡◌, ◌≢◌, suc, List, [], ◌∷◌, length, Contains}
use Rattle.std.proofs.Common.{append-nil, sym, subst, arith}
use Rattle.std.specs.{declared.cmp.Ordering.TheVariants.Less, Ordering.nat_cmp}
use Rattle.std.specs.{Cmp.Lexicographic.slice_cmp}
use Rattle.aeth_slots.specs.SlotSet.{Slots, IsSlotSet, Ascends, with_slot}
use Rattle.aeth_slots.specs.Ways.{IsWay, Reaches, ReachesWithin, IsFirstWay, IsNextOnWay}
use Rattle.aeth_slots.specs.Ways.{AddsFirstWay, IsRound, IsFirstMember, IsFirstRound}
use Rattle.aeth_slots.proofs.Ascending.{Ascends-wider, Ascends-with_slot}
use Rattle.aeth_slots.proofs.Ways.{Reaches-first_step, way_short, within_from_exact}
use Rattle.aeth_slots.proofs.Rounds.{free_below}
use Rattle.aeth_slots.proofs.WaySearch.{adds-more, first_none, next_reaches, not_before-cons}

-- No round comes before the least first slot with the first way from there.
round_first : (free : Slots) (gap more first : ℕ) (way : List ℕ) → IsFirstMember free gap more first
    → IsFirstWay free.slots (first + free.size) gap first more way
    → (other : List ℕ) → IsRound free gap other → length other ≡ more + 1
    → slice_cmp nat_cmp other (first ∷ way) ≢ Less
round_first free gap more first way is first_way [] round count = absurd round
round_first free gap more first way is first_way (start ∷ other) round count =
    not_before-cons start first other way (is.least other start round (omega arith))
    (λ same. first_way.first other
    (subst (λ (k : ℕ). IsWay free.slots (k + free.size) gap k other) (sym same) round.1)
    (omega arith))

-- The first way from the least first slot makes the first round.
pub first_round : (free : Slots) (gap more first : ℕ) (new : List ℕ)
    → IsFirstMember free gap more first
    → AddsFirstWay free.slots (first + free.size) gap first more (first ∷ []) new
    → IsFirstRound free gap (more + 1) new
first_round free gap more first new is (way, joined, first_way) = rw joined (record {
  round_is = (is.member, first_way.way_is);
  count_is = omega (arith, first_way.count_is);
  first = round_first free gap more first way is first_way;
})

-- What the search for the first round keeps: a free slot from which the end is reached over just as
-- many slots as are left, and that the slots so far, with the first way from there, are the round.
pub record IsBegun (free : Slots) (gap more first from left : ℕ) (slots : List ℕ) : Type 0 where
  pub member : Contains free.slots from
  pub reaches : Reaches free.slots (first + free.size) gap from left
  pub below : Ascends 0 (from + 1) slots
  pub whole : (round : List ℕ)
      → AddsFirstWay free.slots (first + free.size) gap from left slots round
      → IsFirstRound free gap (more + 1) round

-- A round has no more slots than the table.
pub round_short : {free : Slots} {gap more first : ℕ} → IsSlotSet free
    → IsFirstMember free gap more first → more < free.size
round_short {free} {gap} {more} {first} is member =
    let below = free_below {free = free} is in
    let (way, is_way, count) = member.reaches in
    let short = way_short free.slots (first + free.size) gap free.size first way below
    (below first member.member) is_way in
    omega arith

-- The next slot on the way is put in.
pub round_goes_on : {free : Slots} {gap more first from left next : ℕ} {slots : List ℕ}
    → IsSlotSet free → IsBegun free gap more first from left slots → 0 < left
    → IsNextOnWay free.slots (first + free.size) gap from (left - 1) next
    → IsBegun free gap more first next (left - 1) (with_slot next slots)
round_goes_on {free} {gap} {more} {first} {from} {left} {next} {slots} is begun some next_is =
    let count : left ≡ suc (left - 1) = omega arith in
    let onward = next_reaches free.slots (first + free.size) gap from (left - 1) next
    (λ slot has. let below = free_below {free = free} is slot has in omega arith) next_is
    (subst (Reaches free.slots (first + free.size) gap from) count begun.reaches) in
    let after = next_is.after in
    record {
      member = next_is.member;
      reaches = onward.1;
      below = Ascends-with_slot 0 (next + 1) next slots (omega arith) (omega arith)
          (Ascends-wider 0 (from + 1) 0 (next + 1) slots (omega arith) (omega arith) begun.below);
      whole = λ round adds. begun.whole round
          (adds-more free.slots (first + free.size) gap from left (left - 1) next slots round count
          onward.0 next_is begun.below adds);
    }

-- Where no slot is left, the slots so far are the round.
pub round_ends : {free : Slots} {gap more first from left : ℕ} {slots : List ℕ}
    → IsBegun free gap more first from left slots → left ≡ 0
    → IsFirstRound free gap (more + 1) slots
round_ends {free} {gap} {more} {first} {from} {left} {slots} begun none = begun.whole slots (
  [],
  sym (append-nil slots),
  first_none free.slots (first + free.size) gap from left none begun.reaches,
)

-- Where some slot is left, there is a next one.
pub round_has_next : {free : Slots} {gap more first from left : ℕ} {slots : List ℕ}
    → IsBegun free gap more first from left slots → 0 < left
    → ((slot : ℕ) → Contains free.slots slot → from < slot
    → ReachesWithin free.slots (first + free.size) gap slot (left - 1) → ⊥) → ⊥
round_has_next {free} {gap} {more} {first} {from} {left} begun some none =
    let count : left ≡ suc (left - 1) = omega arith in
    let step = Reaches-first_step free.slots (first + free.size) gap from (left - 1)
    (subst (Reaches free.slots (first + free.size) gap from) count begun.reaches) in
    none step.next step.member step.after
    (within_from_exact free.slots (first + free.size) gap step.next (left - 1) step.onward)
