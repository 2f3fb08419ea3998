use Rattle.std.proofs.Common.{◌∙◌, ◌+◌, refl, sym, subst, arith}
use Rattle.aeth_slots.proofs.Ways.{way_short}
use Rattle.aeth_slots.proofs.Rounds.{free_below}
use Rattle.aeth_slots.proofs.RoundSearch.{IsLeastSoFar, least_starts, least_with, least_without}
use Rattle.aeth_slots.proofs.RoundSearch.{least_ends, least_enough}
use Rattle.aeth_slots.proofs.choice.least_size.Goals.{in-Some, in_default}
use Rattle.aeth_slots.proofs.choice.least_size.Goals as goal

-- The whole free set is a round.
pub loop-first-init : goal.loop-first-init
loop-first-init c =
    subst (IsLeastSoFar c.args.free.now c.args.gap 0) (sym c.count-least.ensures.count)
    (least_starts c.args.free.now c.args.gap c.size-size.ensures.set c.requires)

-- A way has fewer slots than the table.
pub overflow_add-more : goal.overflow_add-more
overflow_add-more c =
    let is = c.in-Some.ensures.some in
    let many = is.fewest is.reaches.0 is.reaches.1 in
    let few =
    way_short c.args.free.now.slots (c.loop-first.first + c.args.free.now.size) c.args.gap
    c.args.free.now.size c.loop-first.first is.reaches.0
    (free_below c.size-size.ensures.set)
    (omega (arith, c.min-first-end.ensures, c.size-size.ensures.size)) is.reaches.1 in
    omega (arith, c.size-size.ensures.size)

-- A start with a round, or without one.
pub loop-first-preserved : goal.loop-first-preserved
loop-first-preserved c = elim c.match-fewest.branch [
  | in-Some w ↦ rw (w.least-is ∙ w.min-least.ensures)
      (least_with c.args.free.now c.args.gap c.loop-first.first c.loop-first.least w.in-Some.more
      (w.in-Some.ensures.member refl) w.in-Some.ensures.some c.loop-first.invariant)
  | in_default w ↦ rw w.least-is
      (least_without c.args.free.now c.args.gap c.loop-first.first c.loop-first.least
      w.in_default.ensures.none c.loop-first.invariant)
]

-- So many slots are enough.
pub returns-then-least-need : goal.returns-then-least-need
returns-then-least-need c =
    least_enough c.args.free.now c.args.need c.args.gap c.loop-first.first c.loop-first.least
    c.if-least-need.true c.loop-first.invariant

-- No round starts later.
pub returns : goal.returns
returns c =
    least_ends c.args.free.now c.args.need c.args.gap c.loop-first.first c.loop-first.least
    c.size-size.ensures.set (omega (arith, c.min-first-end.ensures, c.size-size.ensures.size))
    c.loop-first.invariant
