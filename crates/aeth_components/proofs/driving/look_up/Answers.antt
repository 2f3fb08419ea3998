use Rattle.std.proofs.Common.{◌≡◌, ◌<◌, ◌+◌, ◌∙◌, arith, get_or, length, slice_get, Some, refl, sym}
use Rattle.std.proofs.lemmas.{List.length-map, Option.slice_get-get_or, Option.slice_get_read}
use Rattle.aeth_clocked.proofs.UsedLemmas.{NextUsed, used-end, used-next}
use Rattle.aeth_components.proofs.LookUpLemmas.{HasCome, IsAlike-part, looked-up-first}
use Rattle.aeth_components.proofs.LookUpLemmas.{looked-up-kept, looked-up-last, looked-up-passed}
use Rattle.aeth_components.proofs.LookUpLemmas.{looked-up-until, looked_up_from}
use Rattle.aeth_components.proofs.FlitLemmas.{flits_on-more, flits_on-take}
use Rattle.aeth_components.proofs.OwnLemmas.{output-below}
use Rattle.aeth_components.proofs.driving.look_up.Goals.{In-Some}
use Rattle.aeth_components.specs.Wirings.{wiring_of}
use Rattle.aeth_components.proofs.driving.look_up.Given as given
use Rattle.aeth_components.proofs.driving.look_up.Goals as goal

pub loop-wire-init : goal.loop-wire-init
loop-wire-init g c = record {
  from = 0;
  left = c.into_iter-wire-iterator.ensures.into_iter_gives ∙ c.used-wire-items.ensures;
  within = omega arith;
  size = c.requires.size;
  came = looked-up-first c.args.parts.now c.args.wires.now c.args.ends.now c.args.cycle
      c.args.onward.now c.requires.forwarded;
  steps = omega arith;
}

-- The next wire with a flit.
next : (g : given.Over) (c : goal.In-Some g) → NextUsed c.args.wires.now c.loop-wire.invariant.from
    c.in-Some.wire c.next.new.self
next g c =
    used-next c.args.wires.now c.loop-wire.invariant.from c.in-Some.wire c.next.new.self
    (sym c.loop-wire.invariant.left ∙ c.in-Some.ensures.steps)

-- It has an end, which is a component.
end : (g : given.Over) (c : goal.In-Some g)
    → slice_get c.args.ends.now.receivers.items c.in-Some.wire
    ≡ Some (get_or c.deref-receivers.result.now c.in-Some.wire 0)
end g c =
    let below = (next g c).below in
    rw c.deref-receivers.ensures.value (slice_get-get_or c.args.ends.now.receivers.items
    c.in-Some.wire 0 (omega (arith, below, c.requires.ends.fits.receivers)))

within : (g : given.Over) (c : goal.In-Some g)
    → get_or c.deref-receivers.result.now c.in-Some.wire 0 < length c.args.parts.now
within g c =
    let are = c.requires.ends in
    let below = (next g c).below in
    let number = are.fits.receivers_below c.in-Some.wire 0
    (omega (arith, below, are.fits.receivers)) in
    let count = are.count ∙ length-map c.args.parts.now wiring_of in
    rw c.deref-receivers.ensures.value (omega (arith, number, count))

-- Tables were looked up for the wires before it.
upto : (g : given.Over) (c : goal.In-Some g)
    → HasCome c.args.parts.now c.args.wires.now c.args.ends.now c.args.cycle
    (looked_up_from c.args.parts.now c.args.wires.now c.args.ends.now c.args.cycle c.in-Some.wire)
    c.loop-wire.onward
upto g c =
    let next = next g c in
    looked-up-until c.args.parts.now c.args.wires.now c.args.ends.now c.args.cycle c.requires.wired
    c.requires.ends c.loop-wire.onward c.loop-wire.invariant.from c.in-Some.wire
    c.loop-wire.invariant.came next.after next.empty

pub offset_bounds-receivers-wire : goal.offset_bounds-receivers-wire
offset_bounds-receivers-wire g c =
    let below = (next g ((goal.at.offset_bounds-receivers-wire g c).In-Some)).below in
    omega (arith, below, c.requires.ends.fits.few_wires)

pub bounds-receivers-wire : goal.bounds-receivers-wire
bounds-receivers-wire g c =
    let below = (next g ((goal.at.bounds-receivers-wire g c).In-Some)).below in
    rw c.deref-receivers.ensures.value (omega (arith, below, c.requires.ends.fits.receivers))

pub bounds-parts-receivers : goal.bounds-parts-receivers
bounds-parts-receivers g c = within g ((goal.at.bounds-parts-receivers g c).In-Some)

pub overflow_cast-link : goal.overflow_cast-link
overflow_cast-link g c =
    let below = (next g ((goal.at.overflow_cast-link g c).In-Some)).below in
    omega (arith, below, c.requires.ends.fits.few_wires)

pub flit-requires : goal.flit-requires
flit-requires g c = (next g ((goal.at.flit-requires g c).In-Some)).some

-- The outputs of its component are wires.
pub pass-requires : goal.pass-requires
pass-requires g c =
    let some = (goal.at.pass-requires g c).In-Some in
    let number = get_or c.deref-receivers.result.now c.in-Some.wire 0 in
    let part = c.index-parts-receivers in
    λ link own. rw c.loop-wire.invariant.size
    (output-below c.args.parts.now (length c.args.wires.now) c.requires.wired number part.result
    (slice_get_read c.args.parts.now (length c.args.parts.now) number part.result refl (within g some)
    part.is) link own)

-- What one wire more has is passed on.
pub loop-wire-preserved-then-has_table : goal.loop-wire-preserved-then-has_table
loop-wire-preserved-then-has_table g c =
    let some = (goal.at.loop-wire-preserved-then-has_table g c).In-Some in
    let parts = c.args.parts.now in
    let wires = c.args.wires.now in
    let wire = c.in-Some.wire in
    let done = c.loop-wire.invariant in
    let next = next g some in
    let below = next.below in
    let number = get_or c.deref-receivers.result.now wire 0 in
    let part = c.index-parts-receivers.result in
    let more = flits_on-more wires wire next.some in
    let fewer = flits_on-take wires done.from wire next.after in
    record {
      from = wire + 1;
      left = next.behind;
      within = omega (arith, below);
      size = c.pass.ensures.size ∙ done.size;
      came = looked-up-passed parts wires c.args.ends.now c.args.cycle c.requires.wired c.requires.ends
          c.loop-wire.onward c.pass.new.onward wire number part (upto g some) done.size below
          (slice_get_read parts (length parts) number part refl (within g some)
          c.index-parts-receivers.is) (end g some)
          (sym c.has_table.ensures ∙ c.if-has_table.true)
          (rw c.flit.ensures c.pass.ensures);
      steps = omega (arith, more, fewer, c.tick.ensures, done.steps);
    }

-- Where there is no table to look up nothing is.
pub loop-wire-preserved : goal.loop-wire-preserved
loop-wire-preserved g c =
    let some = (goal.at.loop-wire-preserved g c).In-Some in
    let parts = c.args.parts.now in
    let wires = c.args.wires.now in
    let wire = c.in-Some.wire in
    let done = c.loop-wire.invariant in
    let next = next g some in
    let below = next.below in
    let after = next.after in
    let number = get_or c.deref-receivers.result.now wire 0 in
    let part = c.index-parts-receivers.result in
    let fewer = flits_on-take wires done.from (wire + 1) (omega (arith, after)) in
    record {
      from = wire + 1;
      left = next.behind;
      within = omega (arith, below);
      size = done.size;
      came = looked-up-kept parts wires c.args.ends.now c.args.cycle c.loop-wire.onward wire
          (upto g some)
          (IsAlike-part parts wires c.args.ends.now c.args.cycle c.requires.wired c.requires.ends
          number wire part
          (slice_get_read parts (length parts) number part refl (within g some)
          c.index-parts-receivers.is) (end g some)
          (sym c.has_table.ensures ∙ c.if-has_table.false));
      steps = omega (arith, fewer, done.steps);
    }

-- So it is of all wires.
pub returns-clause-came : goal.returns-clause-came
returns-clause-came g c =
    let done = c.loop-wire.invariant in
    let wires = c.args.wires.now in
    looked-up-last c.args.parts.now wires c.args.ends.now c.args.cycle c.loop-wire.onward
    (looked-up-until c.args.parts.now wires c.args.ends.now c.args.cycle c.requires.wired
    c.requires.ends c.loop-wire.onward done.from (length wires) done.came done.within
    (used-end wires done.from (sym done.left ∙ c.in-None.ensures.steps.0)))
