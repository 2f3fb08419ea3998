use Rattle.std.proofs.Common.{◌+◌, ◌∙◌, arith, sym, subst, List, Option}
use Rattle.aeth_base.{proofs.MarkedLemmas.next-passing, specs.Marks.is_marked, specs.Marks.room_of}
use Rattle.aeth_clocked.specs.declared.flit.Flit.{Flit}
use Rattle.aeth_router.proofs.ContendedLemmas.{AreLost, AreLost-end, AreLost-first, AreLost-next}
use Rattle.aeth_router.proofs.ContendedLemmas.{marked-within}
use Rattle.aeth_router.proofs.onward.lose.Goals as goal

-- No wire has lost its flit yet.
pub loop-wire-init : goal.loop-wire-init
loop-wire-init c = record {
  from = 0;
  left = c.into_iter-wire-iterator.ensures.into_iter_gives ∙ c.iter-wire-items.ensures;
  lost = AreLost-first c.args.first.now c.args.contended.now;
}

-- A marked number is one of a wire, of which there are few.
pub overflow_cast-wire : goal.overflow_cast-wire
overflow_cast-wire c =
    let done = c.loop-wire.invariant in
    let below = marked-within c.args.first.now c.args.contended.now c.requires done.from c.in-Some.wire
    c.next.new.self (sym done.left ∙ c.in-Some.ensures.steps) in
    let few = c.requires.few in
    omega (arith, below, few)

-- It is one of these wires too.
pub put-requires : goal.put-requires
put-requires c =
    let done = c.loop-wire.invariant in
    let below = marked-within c.args.first.now c.args.contended.now c.requires done.from c.in-Some.wire
    c.next.new.self (sym done.left ∙ c.in-Some.ensures.steps) in
    let size = done.lost.size in
    omega (arith, below, size)

-- One marked wire more has lost its flit.
pub loop-wire-preserved : goal.loop-wire-preserved
loop-wire-preserved c =
    let first = c.args.first.now in
    let marks = c.args.contended.now in
    let wire = c.in-Some.wire in
    let done = c.loop-wire.invariant in
    let list = sym done.left ∙ c.in-Some.ensures.steps in
    record {
      from = wire + 1;
      left = (next-passing (is_marked marks) done.from (room_of marks) wire c.next.new.self list).behind;
      lost = subst (λ (wires : List (Option Flit)). AreLost first marks wires (wire + 1))
          (sym c.put.ensures)
          (AreLost-next first marks c.requires done.from c.loop-wire.first wire c.next.new.self
          done.lost list);
    }

-- No marked wire is left.
pub returns : goal.returns
returns c =
    let done = c.loop-wire.invariant in
    AreLost-end c.args.first.now c.args.contended.now c.requires done.from c.loop-wire.first done.lost
    (sym done.left ∙ c.in-None.ensures.steps.0)
