-- Laws of ways over free slots: their first steps, how many slots they have, and ways as lists.
use Rattle.std.proofs.Common.{ℕ, ◌+◌, ◌<◌, ◌≤◌, zero, suc, List, [], ◌∷◌, length, Contains, sym}
use Rattle.std.proofs.Common.{refl, ap, subst, inl, inr, arith}
use Rattle.std.proofs.lemmas.Bool.{cases_lt}
use Rattle.aeth_slots.specs.SlotSet.{Ascends, distances, greatest}
use Rattle.aeth_slots.specs.Ways.{IsWay, Reaches, ReachesWithin}
use Rattle.aeth_slots.proofs.{Sublists.above_head, Ascending.Ascends-bounds}
use Rattle.aeth_base.proofs.Members.{Contains-nil, Contains-here, Contains-there, Contains-cases}

-- ---- ways by their first step

-- Where the end is near enough, no slot is needed.
pub Reaches-near : (free : List ℕ) (end gap from : ℕ) → end ≤ from + gap
    → Reaches free end gap from 0
Reaches-near free end gap from near = ([], near, refl)

-- A step to a free slot, and a way from there.
pub Reaches-more : (free : List ℕ) (end gap from next count : ℕ) → Contains free next → from < next
    → next ≤ from + gap
    → Reaches free end gap next count → Reaches free end gap from (suc count)
Reaches-more free end gap from next count has after near (way, is_way, count_is) =
    (next ∷ way, (has, after, near, is_way), ap (λ k. suc k) count_is)

-- The first step of a way, and the way from there.
pub record FirstStep (free : List ℕ) (end gap from count : ℕ) : Type 0 where
  pub next : ℕ
  pub member : Contains free next
  pub after : from < next
  pub near : next ≤ from + gap
  pub onward : Reaches free end gap next count

-- A way over one slot or more has a first step.
pub Reaches-first_step : (free : List ℕ) (end gap from count : ℕ)
    → Reaches free end gap from (suc count) → FirstStep free end gap from count
Reaches-first_step free end gap from count ([], is_way, count_is) = absurd (omega arith)
Reaches-first_step free end gap from count (next ∷ way, is_way, count_is) =
    record {
      next = next;
      member = is_way.0;
      after = is_way.1;
      near = is_way.2;
      onward =
          (way, is_way.3, omega arith);
    }

-- A way without slots ends near enough.
pub Reaches-none : (free : List ℕ) (end gap from : ℕ) → Reaches free end gap from 0
    → end ≤ from + gap
Reaches-none free end gap from ([], is_way, count_is) = is_way
Reaches-none free end gap from (next ∷ way, is_way, count_is) = absurd (omega arith)

-- What is reached over so many slots is reached over at most so many.
pub within_from_exact : (free : List ℕ) (end gap from count : ℕ) → Reaches free end gap from count
    → ReachesWithin free end gap from count
within_from_exact free end gap from count (way, is_way, count_is) = (way, is_way, omega arith)

-- The allowance may be greater.
pub within_more : (free : List ℕ) (end gap from most more : ℕ) → most ≤ more
    → ReachesWithin free end gap from most → ReachesWithin free end gap from more
within_more free end gap from most more room (way, is_way, count) = (way, is_way, omega arith)

-- ---- as many slots as one likes

-- Between a slot that reaches the end over at most so many slots and one that reaches it over
-- just so many, both do: the slots in between are put in.
pub exact_from_within : (free : List ℕ) (end gap count from later : ℕ)
    → ((slot : ℕ) → Contains free slot → slot < end) → Contains free later → from ≤ later
    → ReachesWithin free end gap from count → Reaches free end gap later count
    → Reaches free end gap from count
exact_from_within free end gap zero from later below has order ([], near, short) exact =
    ([], near, refl)
exact_from_within free end gap zero from later below has order (next ∷ way, is_way, short) exact =
    absurd (omega arith)
exact_from_within free end gap (suc count) from later below has order ([], near, short) exact =
    let step = Reaches-first_step free end gap later count exact in
    Reaches-more free end gap from step.next count step.member (omega (arith, step.after))
    (omega (arith, near, below step.next step.member)) step.onward
exact_from_within free end gap (suc count) from later below has order (next ∷ way, is_way, short)
    exact =
    let step = Reaches-first_step free end gap later count exact in
    elim (cases_lt step.next next) [
      | inl before ↦ Reaches-more free end gap from step.next count step.member
          (omega (arith, step.after)) (omega (arith, is_way.2)) step.onward
      | inr after ↦ Reaches-more free end gap from next count is_way.0 is_way.1 is_way.2
          (exact_from_within free end gap count next step.next below step.member after
          (way, is_way.3, omega arith) step.onward)
    ]

-- ---- few slots

-- A way has no more slots than lie behind its start.
pub way_short : (free : List ℕ) (end gap top from : ℕ) (way : List ℕ)
    → ((slot : ℕ) → Contains free slot → slot < top) → from < top
    → IsWay free end gap from way → from + suc (length way) ≤ top
way_short free end gap top from [] below start is_way = omega arith
way_short free end gap top from (next ∷ way) below start is_way =
    let rest = way_short free end gap top next way below (below next is_way.0) is_way.3 in
    omega (arith, is_way.1)

-- ---- one slot more

-- Where the way leaves out a slot behind its start, it can be put in; `rest` are those behind.
pub way_more : (free : List ℕ) (end gap top from : ℕ) (rest way : List ℕ) → top ≤ end
    → Ascends (from + 1) top rest
    → ((slot : ℕ) → Contains rest slot → Contains free slot)
    → ((slot : ℕ) → Contains free slot → from < slot → Contains rest slot)
    → IsWay free end gap from way → length way < length rest
    → Reaches free end gap from (suc (length way))
way_more free end gap top from [] way high asc within all is_way short = absurd (omega arith)
way_more free end gap top from (next ∷ rest) [] high asc within all is_way short =
    Reaches-more free end gap from next 0 (within next (Contains-here next rest))
    (omega (arith, asc.0)) (omega (arith, asc.1, is_way))
    (Reaches-near free end gap next (omega (arith, asc.0, is_way)))
way_more free end gap top from (next ∷ rest) (step ∷ way) high asc within all is_way short =
    let has : Contains free next = within next (Contains-here next rest) in
    let start : from < next = omega (arith, asc.0) in
    elim (Contains-cases next rest step (all step is_way.0 is_way.1)) [
      | inl same ↦
          let onward : IsWay free end gap next way =
          subst (λ (k : ℕ). IsWay free end gap k way) (sym same) is_way.3 in
          Reaches-more free end gap from next (suc (length way)) has start
          (omega (arith, is_way.2, same))
          (way_more free end gap top next rest way high asc.2
          (λ slot later. within slot (Contains-there next rest slot later))
          (λ slot member after. above_head next rest slot (all slot member (omega arith)) after)
          onward (omega (arith, short)))
      | inr later ↦
          let after : next < step =
          omega (arith, (Ascends-bounds (next + 1) top rest asc.2 step later).0) in (
            next ∷ step ∷ way,
            (
              has,
              start,
              omega (arith, is_way.2),
              (is_way.0, after, omega (arith, is_way.2), is_way.3),
            ),
            refl,
          )
    ]

-- ---- ways as ascending lists

-- A way to an end is a way to a nearer one.
pub way_nearer : (free : List ℕ) (end near gap from : ℕ) (way : List ℕ) → near ≤ end
    → IsWay free end gap from way → IsWay free near gap from way
way_nearer free end near gap from [] order is_way = omega (arith, is_way)
way_nearer free end near gap from (next ∷ way) order is_way =
    (is_way.0, is_way.1, is_way.2, way_nearer free end near gap next way order is_way.3)

-- The last slot of a way lies below the top, so the end lies less than a gap behind the top.
pub way_end : (free : List ℕ) (end gap top from : ℕ) (way : List ℕ)
    → ((slot : ℕ) → Contains free slot → slot < top) → from < top
    → IsWay free end gap from way → end < top + gap
way_end free end gap top from [] below start is_way = omega (arith, is_way)
way_end free end gap top from (next ∷ way) below start is_way =
    way_end free end gap top next way below (below next is_way.0) is_way.3

-- The slots of a way ascend, are free, and no distance between them is above the gap.
pub way_ascends : (free : List ℕ) (end gap top from : ℕ) (way : List ℕ)
    → ((slot : ℕ) → Contains free slot → slot < top)
    → IsWay free end gap from way → Ascends (from + 1) top way
way_ascends free end gap top from [] below is_way = tt
way_ascends free end gap top from (next ∷ way) below is_way = (
  omega (arith, is_way.1),
  below next is_way.0,
  way_ascends free end gap top next way below is_way.3,
)

-- The slots of a way are free.
pub way_free : (free : List ℕ) (end gap from : ℕ) (way : List ℕ) → IsWay free end gap from way
    → (slot : ℕ) → Contains way slot → Contains free slot
way_free free end gap from [] is_way slot has = Contains-nil has
way_free free end gap from (next ∷ way) is_way slot has = elim (Contains-cases next way slot has) [
  | inl same ↦ subst (Contains free) same is_way.0
  | inr later ↦ way_free free end gap next way is_way.3 slot later
]

-- No distance on a way is above the gap.
pub way_near : (free : List ℕ) (end gap from : ℕ) (way : List ℕ) → IsWay free end gap from way
    → greatest (distances from way end) ≤ gap
way_near free end gap from [] is_way = omega (arith, is_way)
way_near free end gap from (next ∷ way) is_way =
    let rest = way_near free end gap next way is_way.3 in omega (arith, is_way.2, rest)

-- Ascending free slots with no distance above the gap are a way.
pub way_from : (free : List ℕ) (end gap top from : ℕ) (way : List ℕ) → Ascends (from + 1) top way
    → ((slot : ℕ) → Contains way slot → Contains free slot)
    → greatest (distances from way end) ≤ gap → IsWay free end gap from way
way_from free end gap top from [] asc within near = omega (arith, near)
way_from free end gap top from (next ∷ way) asc within near = (
  within next (Contains-here next way),
  omega (arith, asc.0),
  omega (arith, near),
  way_from free end gap top next way asc.2
      (λ slot has. within slot (Contains-there next way slot has)) (omega (arith, near)),
)
