use Rattle.std.proofs.Common.{◌%◌, ◌<◌, ℕ, Contains, subst, arith}
use Rattle.aeth_slots.{specs.SlotSet.IsNextSlot, proofs.Ascending.Ascends-bounds}
use Rattle.aeth_server.proofs.NextCycles.{next-near, next-past}
use Rattle.aeth_server.proofs.slot_cycles.next_slot.Goals as goal

-- A slot is found within the turn.
pub overflow_add-result : goal.overflow_add-result
overflow_add-result c =
    let set = c.size-size.ensures.set in
    let size = c.size-size.ensures.size in
    let bounds = Ascends-bounds 0 c.args.slots.now.size c.args.slots.now.slots set.ascends
    c.in-Some.slot c.in-Some.ensures.some.member in
    omega (arith, size, set.within, bounds, c.requires.early)

pub returns-in-Some : goal.returns-in-Some
returns-in-Some c =
    let set = c.size-size.ensures.set in
    let size = c.size-size.ensures.size in
    let is = subst (λ n. IsNextSlot c.args.slots.now.slots (c.args.t % n) c.in-Some.slot) size
    c.in-Some.ensures.some in
    rw size (next-near c.args.slots.now.size c.args.slots.now.slots c.args.t set.some_size
    set.ascends c.in-Some.slot is)

-- None is left in the turn: the first of all comes in the next.
pub returns-in-None : goal.returns-in-None
returns-in-None c =
    let set = c.size-size.ensures.set in
    let size = c.size-size.ensures.size in
    let past = subst (λ n. (other : ℕ) → Contains c.args.slots.now.slots other
    → other < c.args.t % n) size c.in-None.ensures.none in
    rw size (next-past c.args.slots.now.size c.args.slots.now.slots c.args.t set.some_size
    set.ascends c.at_or_after-in-None.result c.unwrap_or.result c.unwrap_or.ensures
    c.at_or_after-in-None.ensures.some c.at_or_after-in-None.ensures.none c.requires.some past)

-- It is within the next turn.
pub overflow_add-result-in-None-2 : goal.overflow_add-result-in-None-2
overflow_add-result-in-None-2 c =
    let set = c.size-size.ensures.set in
    let size = c.size-size.ensures.size in
    let past = subst (λ n. (other : ℕ) → Contains c.args.slots.now.slots other
    → other < c.args.t % n) size c.in-None.ensures.none in
    let next = next-past c.args.slots.now.size c.args.slots.now.slots c.args.t set.some_size
    set.ascends c.at_or_after-in-None.result c.unwrap_or.result c.unwrap_or.ensures
    c.at_or_after-in-None.ensures.some c.at_or_after-in-None.ensures.none c.requires.some past in
    rw size (omega (arith, next.near, set.within, c.requires.early))
