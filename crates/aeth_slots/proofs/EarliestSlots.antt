-- Laws of the earliest slots from which an end is reached.
use Rattle.std.proofs.Common.{ℕ, ◌+◌, ◌-◌, ◌<◌, ◌≤◌, ◌≡◌, ◌⊎◌, List, [], ◌∷◌, length, Contains, set}
use Rattle.std.proofs.Common.{sym, subst, inl, inr, arith, get_or-set_other}
use Rattle.std.proofs.lemmas.{Bool.cases_eq, Bool.cases_lt, Grind.get_or-set_at}
use Rattle.aeth_slots.{specs.SlotSet.IsNextSlot, specs.Ways.AreEarliest, specs.Ways.IsEarliest}
use Rattle.aeth_slots.{specs.Ways.IsWay, specs.Ways.ReachesWithin, proofs.Ways.within_more}

-- A way over at most no slot ends near enough.
within_none : (free : List ℕ) (end gap from : ℕ) → ReachesWithin free end gap from 0
    → end ≤ from + gap
within_none free end gap from ([], is_way, short) = is_way
within_none free end gap from (next ∷ way, is_way, short) = absurd (omega arith)

-- A way over at most one slot more ends near enough already, or has a first step.
within_cases : (free : List ℕ) (end gap from most : ℕ) → ReachesWithin free end gap from (most + 1)
    → ReachesWithin free end gap from most ⊎ ((next : ℕ) × Contains free next
    × (next ≤ from + gap) × ReachesWithin free end gap next most)
within_cases free end gap from most ([], is_way, short) = inl ([], is_way, omega arith)
within_cases free end gap from most (next ∷ way, is_way, short) =
    inr (next, is_way.0, is_way.2, (way, is_way.3, omega arith))

-- The earliest slot that reaches the end over no slot.
pub earliest_none : {free : List ℕ} {end gap slot from : ℕ} → from ≡ end - gap
    → IsNextSlot free from slot → IsEarliest free end gap 0 slot
earliest_none {free} {end} {gap} from_is next = record {
  member = next.member;
  later = λ start has order. ([], (let after = next.after in omega arith), omega arith);
  earlier =
      λ start has within. next.least start has (let near = within_none free end gap start within in
      omega arith);
}

-- Where none is near enough to the end, no slot reaches it, over however many slots.
pub none_near : (free : List ℕ) (end gap : ℕ) → ((slot : ℕ) → Contains free slot → slot < end - gap)
    → (way : List ℕ) (from : ℕ) → Contains free from → IsWay free end gap from way → ⊥
none_near free end gap far [] from has is_way = omega (arith, far from has)
none_near free end gap far (next ∷ way) from has is_way =
    none_near free end gap far way next is_way.0 is_way.3

-- The earliest slot with one slot more lies at most a gap before the earliest one.
pub earliest_more : {free : List ℕ} {end gap most slot before from : ℕ}
    → IsEarliest free end gap most slot → from ≡ slot - gap → IsNextSlot free from before
    → IsEarliest free end gap (most + 1) before
earliest_more {free} {end} {gap} {most} {slot} is from_is next = record {
  member = next.member;
  later = λ start has order. elim (cases_lt start slot) [
    | inl earlier ↦ let onward = is.later slot is.member (omega arith) in (
      slot ∷ onward.0,
      (is.member, earlier, (let after = next.after in omega arith), onward.1),
      omega (arith, onward.2),
    )
    | inr later ↦ within_more free end gap start most (most + 1) (omega arith)
        (is.later start has later)
  ];
  earlier =
      λ start has within. next.least start has (elim (within_cases free end gap start most within) [
        | inl already ↦ omega (arith, is.earlier start has already)
        | inr (step, member, near, onward) ↦ omega (arith, is.earlier step member onward)
      ]);
}

-- The earliest slot over as many slots as there are earliest ones before is put behind these.
pub earliest_put : {free : List ℕ} {end gap most slot : ℕ} {slots : List ℕ}
    → AreEarliest free end gap most slots → IsEarliest free end gap most slot
    → most < length slots → AreEarliest free end gap (most + 1) (set slots most slot)
earliest_put {free} {end} {gap} {most} {slot} {slots} are is room = record {
  each = λ k within. elim (cases_eq k most) [
    | inl same ↦
        rw (get_or-set_at slots most k slot 0 same room)
        (subst (λ (n : ℕ). IsEarliest free end gap n slot) (sym same) is)
    | inr other ↦
        rw (get_or-set_other slots most k slot 0 other) (are.each k (omega arith))
  ];
}
