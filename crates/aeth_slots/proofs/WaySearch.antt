-- The steps of the search for the first way: its next slot, and the slots from there.
use Rattle.std.proofs.Common.{ℕ, ◌+◌, ◌<◌, ◌≤◌, ◌≡◌, ◌≢◌, ◌∙◌, max, suc, List, [], ◌∷◌, ◌++◌}
use Rattle.std.proofs.Common.{length, Contains, sym, ap, subst, inl, inr, arith, append_assoc}
use Rattle.std.proofs.Common.{eq-eqb, ne_eqb, le-ltb}
use Rattle.std.proofs.lemmas.Bool.{cases_eq}
use Rattle.std.specs.{declared.cmp.Ordering.TheVariants.Less, Ordering.nat_cmp}
use Rattle.std.specs.{Cmp.Lexicographic.slice_cmp}
use Rattle.aeth_slots.specs.SlotSet.{IsNextSlot, Ascends, with_slot}
use Rattle.aeth_slots.specs.Ways.{IsWay, Reaches, ReachesWithin, IsEarliest, IsNextOnWay}
use Rattle.aeth_slots.specs.Ways.{IsFirstWay, AddsFirstWay}
use Rattle.aeth_slots.proofs.Ascending.{Ascends-wider, with_slot-last}
use Rattle.aeth_slots.proofs.Ways.{within_from_exact, exact_from_within, Reaches-none}
use Rattle.aeth_slots.proofs.Ways.{Reaches-first_step}

-- ---- the next slot

-- The least slot after a start and not before the earliest is the next on the way.
pub next_on_way : {free : List ℕ} {end gap most earliest from start slot : ℕ}
    → IsEarliest free end gap most earliest → start ≡ max earliest (from + 1)
    → IsNextSlot free start slot → IsNextOnWay free end gap from most slot
next_on_way {slot = slot} is start_is next = record {
  member = next.member;
  after = (let after = next.after in omega arith);
  reaches = is.later slot next.member (let after = next.after in omega arith);
  least = λ other has after within. next.least other has
      (let order = is.earlier other has within in omega arith);
}

-- Where there is none, no slot after the start reaches the end.
pub none_on_way : {free : List ℕ} {end gap most earliest from start : ℕ}
    → IsEarliest free end gap most earliest → start ≡ max earliest (from + 1)
    → ((other : ℕ) → Contains free other → other < start)
    → (slot : ℕ) → Contains free slot → from < slot → ReachesWithin free end gap slot most → ⊥
none_on_way is start_is below slot has after within =
    let order = is.earlier slot has within in let before = below slot has in omega arith

-- ---- the first way

-- No list comes before the empty one.
pub not_before-nil : (xs : List ℕ) → slice_cmp nat_cmp xs [] ≢ Less
not_before-nil [] less = cc
not_before-nil (x ∷ xs) less = cc

-- A list doesn't come before one with a lower head, or with the same and a rest that it isn't
-- before.
pub not_before-cons : (x y : ℕ) (xs ys : List ℕ) → y ≤ x → (y ≡ x → slice_cmp nat_cmp xs ys ≢ Less)
    → slice_cmp nat_cmp (x ∷ xs) (y ∷ ys) ≢ Less
not_before-cons x y xs ys order rest = rw (le-ltb x y order) (elim (cases_eq x y) [
  | inl same ↦ rw (eq-eqb x y same) (rest (sym same))
  | inr other ↦ rw (ne_eqb x y other) (λ less. cc)
])

-- Over no slot there is one way.
pub first_none : (free : List ℕ) (end gap from count : ℕ) → count ≡ 0
    → Reaches free end gap from count → IsFirstWay free end gap from count []
first_none free end gap from count none reaches = record {
  way_is = Reaches-none free end gap from (subst (Reaches free end gap from) none reaches);
  count_is = sym none;
  first = λ other is_way count_is. not_before-nil other;
}

-- The next slot on the way reaches the end over just as many slots as are left.
pub next_reaches : (free : List ℕ) (end gap from more next : ℕ)
    → ((slot : ℕ) → Contains free slot → slot < end)
    → IsNextOnWay free end gap from more next → Reaches free end gap from (suc more)
    → (next ≤ from + gap) × Reaches free end gap next more
next_reaches free end gap from more next below is reaches =
    let step = Reaches-first_step free end gap from more reaches in
    let order : next ≤ step.next =
    is.least step.next step.member step.after
    (within_from_exact free end gap step.next more step.onward) in (
      omega (arith, step.near),
      exact_from_within free end gap more next step.next below step.member
          order is.reaches step.onward,
    )

-- No way comes before the next slot with the first way from there.
first-cons : (free : List ℕ) (end gap from more next : ℕ) (way : List ℕ)
    → IsNextOnWay free end gap from more next → IsFirstWay free end gap next more way
    → (other : List ℕ) → IsWay free end gap from other → length other ≡ suc more
    → slice_cmp nat_cmp other (next ∷ way) ≢ Less
first-cons free end gap from more next way is first [] is_way count = absurd (omega arith)
first-cons free end gap from more next way is first (step ∷ other) is_way count =
    not_before-cons step next other way
    (is.least step is_way.0 is_way.1 (other, is_way.3, omega arith))
    (λ same. first.first other (subst (λ (k : ℕ). IsWay free end gap k other) (sym same) is_way.3)
    (omega arith))

-- The next slot and the first way from there are the first way.
first-more : (free : List ℕ) (end gap from more next : ℕ) (way : List ℕ) → next ≤ from + gap
    → IsNextOnWay free end gap from more next
    → IsFirstWay free end gap next more way → IsFirstWay free end gap from (suc more) (next ∷ way)
first-more free end gap from more next way near is first = record {
  way_is = (is.member, is.after, near, first.way_is);
  count_is = ap (λ k. suc k) first.count_is;
  first = first-cons free end gap from more next way is first;
}

-- The next slot was put in, and then the first way from there.
pub adds-more : (free : List ℕ) (end gap from count more next : ℕ) (old new : List ℕ)
    → count ≡ suc more → next ≤ from + gap
    → IsNextOnWay free end gap from more next → Ascends 0 (from + 1) old
    → AddsFirstWay free end gap next more (with_slot next old) new
    → AddsFirstWay free end gap from count old new
adds-more free end gap from count more next old new count_is near is asc (way, joined, first) =
    let last : with_slot next old ≡ old ++ next ∷ [] =
    with_slot-last 0 next old
    (Ascends-wider 0 (from + 1) 0 next old (omega arith) (let after = is.after in omega arith)
    asc) in (
      next ∷ way,
      joined ∙ ap (λ k. k ++ way) last ∙ append_assoc old (next ∷ []) way,
      rw count_is (first-more free end gap from more next way near is first),
    )
