use Rattle.std.proofs.Common.{ℕ, ◌≡◌, ◌+◌, ◌-◌, ◌*◌, ◌%◌, ◌<◌, ◌≤◌, ◌∙◌, length, ap, arith}
use Rattle.std.specs.Int.{div_ceil}
use Rattle.aeth_base.proofs.ExtremeLemmas.{ord_max-nat}
use Rattle.aeth_base.specs.Limits.{credits_per_flit, max_slots}
use Rattle.aeth_slots.specs.SlotSet.{IsNextSlot, IsSlotSet, Slots}
use Rattle.aeth_slots.proofs.Ascending.{Ascends-bounds}
use Rattle.aeth_server.proofs.LatencyWalk.{Carries, IsLatency, Walked, walk-fits, walk-start}
use Rattle.aeth_server.proofs.LatencyWalk.{walk-to-end, walk-to-slot, walks-find}
use Rattle.aeth_server.proofs.service_latency.latency.Goals as goal

module _ {set : Slots} {cap rate : ℕ} (is : IsSlotSet set) (least_cap : 1 ≤ cap)
    (least_rate : 1 ≤ rate) (capacity : rate ≤ cap * length set.slots) where
  -- The slots carry the rate.
  carried : Carries set.size set.slots cap rate
  carried = record {
    ascends = is.ascends;
    least_cap = least_cap;
    least_rate = least_rate;
    capacity = capacity;
  }

  -- The numbers of the walk fit.
  fits : {t behind late : ℕ} (n : ℕ) → cap ≤ credits_per_flit
      → Walked set.size set.slots cap rate t behind late → t ≤ 2 * set.size → n ≤ set.size
      → behind + rate * n + rate ≤ credits_per_flit * max_slots * (3 * max_slots + 1)
  fits n most_cap walked early within =
      walk-fits _ _ _ _ carried _ _ _ n walked early within is.within most_cap

  -- What the walk over two tables finds.
  found : {t behind late theta : ℕ} → Walked set.size set.slots cap rate t behind late
      → 2 * set.size ≤ t → theta ≡ div_ceil late rate → IsLatency set.size set.slots cap rate theta
  found walked whole rounded = walks-find _ _ _ _ carried _ _ _ _ walked whole rounded

-- A slot of the table.
low : {set : Slots} {here slot : ℕ} → IsSlotSet set → IsNextSlot set.slots here slot
    → slot < set.size
low is next = (Ascends-bounds 0 _ _ is.ascends _ next.member).1

pub cycles-init : goal.cycles-init
cycles-init c = walk-start _ _ _ _

pub overflow_mul-behind : goal.overflow_mul-behind
overflow_mul-behind c =
    let size = c.size-size.ensures in
    let most = fits size.set c.requires.least_cap c.requires.least_rate c.requires.capacity
    (c.in-Some.slot - c.cycles.cycle % c.size-size.result) c.requires.most_cap c.cycles.invariant
    (omega (arith, c.cycles-test.true, size.size))
    (omega (arith, low size.set c.in-Some.ensures.some)) in
    omega (arith, most)

pub overflow_add-behind : goal.overflow_add-behind
overflow_add-behind c =
    let size = c.size-size.ensures in
    let most = fits size.set c.requires.least_cap c.requires.least_rate c.requires.capacity
    (c.in-Some.slot - c.cycles.cycle % c.size-size.result) c.requires.most_cap c.cycles.invariant
    (omega (arith, c.cycles-test.true, size.size))
    (omega (arith, low size.set c.in-Some.ensures.some)) in
    omega (arith, most)

pub overflow_add-behind-in-Some : goal.overflow_add-behind-in-Some
overflow_add-behind-in-Some c =
    let size = c.size-size.ensures in
    let most = fits size.set c.requires.least_cap c.requires.least_rate c.requires.capacity
    (c.in-Some.slot - c.cycles.cycle % c.size-size.result) c.requires.most_cap c.cycles.invariant
    (omega (arith, c.cycles-test.true, size.size))
    (omega (arith, low size.set c.in-Some.ensures.some)) in
    omega (arith, most)

pub overflow_add-cycle : goal.overflow_add-cycle
overflow_add-cycle c =
    let set = c.size-size.ensures.set in
    omega (arith, low set c.in-Some.ensures.some, set.within)

pub overflow_add-cycle-in-Some : goal.overflow_add-cycle-in-Some
overflow_add-cycle-in-Some c =
    let set = c.size-size.ensures.set in
    omega (
      arith,
      low set c.in-Some.ensures.some,
      set.within,
      c.cycles-test.true,
      c.size-size.ensures.size,
    )

-- On to the next slot.
pub cycles-preserved-in-Some : goal.cycles-preserved-in-Some
cycles-preserved-in-Some c =
    let size = c.size-size.ensures in
    let room = ap (λ n. c.args.cap * n) size.size in
    let place = ap (λ n. c.cycles.cycle % n) size.size in
    let greater = c.max-late.ensures
    ∙ ord_max-nat c.cycles.late c.saturating_sub.result in
    walk-to-slot _ _ _ _
    (carried size.set c.requires.least_cap c.requires.least_rate c.requires.capacity)
    _ _ _ _ _ _ _ _ c.cycles.invariant place c.in-Some.ensures.some (omega arith)
    (omega (arith, c.saturating_sub-behind.ensures, room))
    (omega (arith, greater, c.saturating_sub.ensures, size.size))

pub overflow_mul-behind-in-None : goal.overflow_mul-behind-in-None
overflow_mul-behind-in-None c =
    let size = c.size-size.ensures in
    let most = fits size.set c.requires.least_cap c.requires.least_rate c.requires.capacity
    (c.size-size.result - c.cycles.cycle % c.size-size.result) c.requires.most_cap
    c.cycles.invariant (omega (arith, c.cycles-test.true, size.size))
    (omega (arith, size.size)) in
    omega (arith, most)

pub overflow_add-behind-in-None : goal.overflow_add-behind-in-None
overflow_add-behind-in-None c =
    let size = c.size-size.ensures in
    let most = fits size.set c.requires.least_cap c.requires.least_rate c.requires.capacity
    (c.size-size.result - c.cycles.cycle % c.size-size.result) c.requires.most_cap
    c.cycles.invariant (omega (arith, c.cycles-test.true, size.size))
    (omega (arith, size.size)) in
    omega (arith, most)

-- Or to the end of the table.
pub cycles-preserved : goal.cycles-preserved
cycles-preserved c =
    let size = c.size-size.ensures in
    let place = ap (λ n. c.cycles.cycle % n) size.size in
    rw size.size (walk-to-end _ _ _ _
    (carried size.set c.requires.least_cap c.requires.least_rate c.requires.capacity) _ _ _ _
    c.cycles.invariant (rw size.size at place) (omega (arith, size.set.some_size))
    (rw size.size at c.in-None.ensures.none))

-- The walk over two tables finds the latency.
pub returns-clause-gives : goal.returns-clause-gives
returns-clause-gives c =
    let size = c.size-size.ensures in
    (found size.set c.requires.least_cap c.requires.least_rate c.requires.capacity
    c.cycles.invariant (omega (arith, c.cycles-test.false, size.size)) c.div_ceil.ensures).gives

pub returns-clause-enough : goal.returns-clause-enough
returns-clause-enough c =
    let size = c.size-size.ensures in
    (found size.set c.requires.least_cap c.requires.least_rate c.requires.capacity
    c.cycles.invariant (omega (arith, c.cycles-test.false, size.size)) c.div_ceil.ensures).enough

pub returns-clause-least : goal.returns-clause-least
returns-clause-least c =
    let size = c.size-size.ensures in
    (found size.set c.requires.least_cap c.requires.least_rate c.requires.capacity
    c.cycles.invariant (omega (arith, c.cycles-test.false, size.size)) c.div_ceil.ensures).least

pub returns-clause-within : goal.returns-clause-within
returns-clause-within c =
    let size = c.size-size.ensures in
    (found size.set c.requires.least_cap c.requires.least_rate c.requires.capacity
    c.cycles.invariant (omega (arith, c.cycles-test.false, size.size)) c.div_ceil.ensures).within

pub returns-clause-most : goal.returns-clause-most
returns-clause-most c =
    let size = c.size-size.ensures in
    let slots = found size.set c.requires.least_cap c.requires.least_rate c.requires.capacity
    c.cycles.invariant (omega (arith, c.cycles-test.false, size.size)) c.div_ceil.ensures in
    omega (arith, slots.within, size.set.within)
