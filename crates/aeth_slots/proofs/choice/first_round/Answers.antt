use Rattle.std.proofs.Common.{ℕ, ◌≡◌, ◌∙◌, ◌+◌, ◌-◌, ap, subst, arith}
use Rattle.aeth_slots.specs.{SlotSet.Slots, Ways.IsEarliest}
use Rattle.aeth_slots.proofs.Rounds.{free_below}
use Rattle.aeth_slots.proofs.FirstRound.{round_ends, round_goes_on, round_has_next, round_short}
use Rattle.aeth_slots.proofs.WaySearch.{next_on_way, none_on_way}
use Rattle.aeth_slots.proofs.choice.first_round.Goals as goal

-- The end is the first slot one table later.
table_end : {free : Slots} {size gap most slot : ℕ} (first : ℕ) → size ≡ free.size
    → IsEarliest free.slots (first + size) gap most slot
    → IsEarliest free.slots (first + free.size) gap most slot
table_end {free} {size} {gap} {most} {slot} first is =
    subst (λ (n : ℕ). IsEarliest free.slots (first + n) gap most slot) is

-- A free slot is below the size.
pub insert-requires : goal.insert-requires
insert-requires c =
    let below = free_below c.size-size.ensures.set c.args.first c.requires.member in
    omega (arith, c.size-size.ensures.size, ap (λ (v : Slots). v.size) c.empty-set.ensures)

-- And the size is small.
pub overflow_add-first : goal.overflow_add-first
overflow_add-first c =
    let below = free_below c.size-size.ensures.set c.args.first c.requires.member in
    omega (arith, c.size-size.ensures.size, c.size-size.ensures.set.within)

-- A round has no more slots than the table.
pub earliest_slots-requires : goal.earliest_slots-requires
earliest_slots-requires c =
    let short = round_short c.size-size.ensures.set c.requires in
    omega (arith, c.size-size.ensures.set.within)

-- So the place of what is left lies in the list.
pub bounds-earliest-left : goal.bounds-earliest-left
bounds-earliest-left c =
    let short = round_short c.size-size.ensures.set c.requires in
    omega (arith, c.size-size.ensures.set.within, c.loop-left.invariant.few)

-- A free slot is small.
pub overflow_add-from : goal.overflow_add-from
overflow_add-from c =
    let below = free_below c.size-size.ensures.set c.loop-left.from
    c.loop-left.invariant.begun.member in
    omega (arith, c.size-size.ensures.set.within)

-- There is a next slot as long as some is left.
pub returns-in_default-at_or_after-clause-round : goal.returns-in_default-at_or_after-clause-round
returns-in_default-at_or_after-clause-round c =
    let earliest = table_end c.args.first c.size-size.ensures.size
    (c.in-Some.ensures.some.each (c.loop-left.left - 1)
    (omega (arith, c.loop-left.invariant.few))) in
    absurd (round_has_next c.loop-left.invariant.begun (omega arith)
    (none_on_way earliest c.max.ensures c.in_default-at_or_after.ensures.none))

-- The next slot is free, so below the size.
pub insert-requires-in-loop-left : goal.insert-requires-in-loop-left
insert-requires-in-loop-left c =
    let below = free_below c.size-size.ensures.set c.in-Some-at_or_after.next
    c.in-Some-at_or_after.ensures.some.member in
    omega (arith, c.loop-left.invariant.size)

-- The next slot is put in.
pub loop-left-preserved : goal.loop-left-preserved
loop-left-preserved c =
    let earliest = table_end c.args.first c.size-size.ensures.size
    (c.in-Some.ensures.some.each (c.loop-left.left - 1)
    (omega (arith, c.loop-left.invariant.few))) in
    let next = next_on_way earliest c.max.ensures c.in-Some-at_or_after.ensures.some in
    record {
      size = ap (λ (v : Slots). v.size) c.insert-in-loop-left.ensures.set
          ∙ c.loop-left.invariant.size;
      few = omega (arith, c.loop-left.invariant.few);
      begun = rw c.insert-in-loop-left.ensures.set
          (round_goes_on c.size-size.ensures.set c.loop-left.invariant.begun (omega arith) next);
    }

-- All slots were put in.
pub returns-clause-round : goal.returns-clause-round
returns-clause-round c = round_ends c.loop-left.invariant.begun (omega arith)
