use Rattle.std.proofs.Common.{◌∙◌, Some, None, arith, length}
use Rattle.aeth_base.proofs.ExtremeLemmas.{ord_max-nat}
use Rattle.aeth_chip.specs.Limits.{max_places}
use Rattle.aeth_chip.proofs.OriginLemmas.{links_placed, origin_below}
use Rattle.aeth_chip.proofs.SummaryLemmas.{level-least, summary-few, summary-row, summary-some}
use Rattle.aeth_chip.proofs.SummaryLemmas.{summary-none, summary-end}
use Rattle.aeth_chip.proofs.summary.Summary.of.Goals.{in-Some, in-None}
use Rattle.aeth_chip.proofs.summary.Summary.of.Goals as goal

-- There are at most so many pairs.
pub overflow_add-unreached : goal.overflow_add-unreached
overflow_add-unreached c =
    let nis = c.nis-nis.ensures.nis in
    let few = summary-few c.args.chip.now c.loop-b.b c.loop-a.a c.loop-a.far c.loop-a.unreached
    c.loop-a.invariant c.slots.ensures.chip.nis (omega arith) (omega arith) in
    omega arith

-- Each place in the sets is one.
pub levels_before-levels-requires-clause-places : goal.levels_before-levels-requires-clause-places
levels_before-levels-requires-clause-places c =
    let chip = c.args.chip.now in
    let is_chip = c.slots.ensures.chip in
    let few = is_chip.routers in
    let fewer = is_chip.nis in
    origin_below (length chip.routers) max_places chip.links c.origins_in-origins.result
    (omega arith) (links_placed chip is_chip max_places (omega arith)) c.origins_in-origins.ensures

-- One more pair.
pub loop-a-preserved : goal.loop-a-preserved
loop-a-preserved c =
    let chip = c.args.chip.now in
    let nis = c.nis-nis.ensures.nis in
    let given = level-least chip c.slots.ensures.chip c.origins_in-origins.result
    c.origins_in-origins.ensures (record { 0 = c.loop-a.a }) (record { 0 = c.loop-b.b })
    (omega arith) c.levels_before-levels.result
    (rw c.routers-routers.ensures.routers at c.levels_before-levels.ensures) in
    elim c.match-level_at.branch [
      | in-Some w ↦ summary-some chip c.loop-b.b c.loop-a.a c.loop-a.far c.loop-a.unreached
          w.in-Some.least c.match-level_at.far c.match-level_at.unreached c.loop-a.invariant
          (given (Some w.in-Some.least)
          (rw c.routers-routers.ensures.routers at w.in-Some.ensures))
          (w.far-is ∙ w.max-far.ensures ∙ ord_max-nat c.loop-a.far w.in-Some.least) w.unreached-is
      | in-None w ↦ summary-none chip c.loop-b.b c.loop-a.a c.loop-a.far c.loop-a.unreached
          c.match-level_at.far c.match-level_at.unreached c.loop-a.invariant
          (given None (rw c.routers-routers.ensures.routers at w.in-None.ensures)) w.far-is
          w.unreached-is
    ]

-- One more row.
pub loop-b-preserved : goal.loop-b-preserved
loop-b-preserved c =
    let nis = c.nis-nis.ensures.nis in
    summary-row c.args.chip.now c.loop-b.b c.loop-a.a c.loop-a.far c.loop-a.unreached
    c.loop-a.invariant (omega arith)

-- All pairs.
pub returns : goal.returns
returns c =
    let nis = c.nis-nis.ensures.nis in
    let all = summary-end c.args.chip.now c.loop-b.b c.loop-b.far c.loop-b.unreached
    c.loop-b.invariant (omega arith) in
    record { far = all.far_is; unreached = all.unreached_is }
