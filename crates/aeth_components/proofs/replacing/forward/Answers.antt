use Rattle.std.proofs.Common.{◌≡◌, ◌<◌, ◌+◌, ◌∙◌, [], ap, arith, get_or, length, refl, slice_get}
use Rattle.std.proofs.Common.{Some, sym, take}
use Rattle.std.proofs.lemmas.List.{length-map, length-replicate}
use Rattle.std.proofs.lemmas.Option.{same_Some, slice_get-get_or, slice_get_read}
use Rattle.aeth_clocked.proofs.UsedLemmas.{NextUsed, used-end, used-next}
use Rattle.aeth_clocked.specs.{Wires.flit_on, Wires.used_from, declared.flit.Flit.Flit}
use Rattle.aeth_router.specs.Onward.{Nothing}
use Rattle.aeth_components.proofs.ForwardedLemmas.{ForwardedTo-none, ForwardedTo-passed}
use Rattle.aeth_components.proofs.ForwardedLemmas.{ForwardedTo-until}
use Rattle.aeth_components.proofs.LandedLemmas.{Lands, receiver-at}
use Rattle.aeth_components.proofs.OwnLemmas.{output-below}
use Rattle.aeth_components.proofs.TakenLemmas.{OneMore-next, flits_on-all, flits_on-few}
use Rattle.aeth_components.proofs.TakenLemmas.{flits_on-next}
use Rattle.aeth_components.proofs.replacing.forward.Goals.{In-None, In-Some}
use Rattle.aeth_components.specs.Wirings.{wiring_of}
use Rattle.aeth_components.proofs.replacing.forward.Goals as goal

-- Before the first wire nothing is passed on.
pub loop-wire-init : goal.loop-wire-init
loop-wire-init c =
    let wires = c.args.wires.now in
    record {
      from = 0;
      left = c.into_iter-wire-iterator.ensures.into_iter_gives ∙ c.used-wire-items.ensures;
      within = omega arith;
      all = refl;
      size = ap length c.requires.onward ∙ length-replicate (length wires) Nothing;
      forwarded = ForwardedTo-none c.args.parts.now wires c.args.ends.now c.args.onward.now
          c.requires.onward;
    }

-- The next wire with a flit.
next : (c : In-Some) → NextUsed c.args.wires.now c.loop-wire.invariant.from c.in-Some.wire
    c.next.new.self
next c =
    used-next c.args.wires.now c.loop-wire.invariant.from c.in-Some.wire c.next.new.self
    (sym c.loop-wire.invariant.left ∙ c.in-Some.ensures.steps)

-- It has an end, which is a component.
end : (c : In-Some) → slice_get c.args.ends.now.receivers.items c.in-Some.wire
    ≡ Some (get_or c.deref-receivers.result.now c.in-Some.wire 0)
end c =
    let below = (next c).below in
    rw c.deref-receivers.ensures.value (slice_get-get_or c.args.ends.now.receivers.items
    c.in-Some.wire 0 (omega (arith, below, c.requires.ends.fits.receivers)))

within : (c : In-Some) → get_or c.deref-receivers.result.now c.in-Some.wire 0 < length c.args.parts.now
within c =
    let are = c.requires.ends in
    let below = (next c).below in
    let number = are.fits.receivers_below c.in-Some.wire 0
    (omega (arith, below, are.fits.receivers)) in
    let count = are.count ∙ length-map c.args.parts.now wiring_of in
    rw c.deref-receivers.ensures.value (omega (arith, number, count))

-- Its flit comes to the component at its end.
lands : (c : In-Some) (flit : Flit) → flit_on c.args.wires.now c.in-Some.wire ≡ Some flit
    → Lands c.args.parts.now c.args.wires.now c.args.ends.now c.in-Some.wire
    (get_or c.deref-receivers.result.now c.in-Some.wire 0) flit
    (take c.loop-wire.invariant.from c.args.wires.now) (take (c.in-Some.wire + 1) c.args.wires.now)
lands c flit has =
    let next = next c in
    record {
      wired = c.requires.wired;
      are = c.requires.ends;
      within = next.below;
      end = end c;
      has = has;
      more = OneMore-next next has;
    }

pub offset_bounds-receivers-wire : goal.offset_bounds-receivers-wire
offset_bounds-receivers-wire c =
    let below = (next ((goal.at.offset_bounds-receivers-wire c).In-Some)).below in
    omega (arith, below, c.requires.ends.fits.few_wires)

pub bounds-receivers-wire : goal.bounds-receivers-wire
bounds-receivers-wire c =
    let below = (next ((goal.at.bounds-receivers-wire c).In-Some)).below in
    rw c.deref-receivers.ensures.value (omega (arith, below, c.requires.ends.fits.receivers))

pub bounds-parts-receivers : goal.bounds-parts-receivers
bounds-parts-receivers c = within ((goal.at.bounds-parts-receivers c).In-Some)

pub overflow_cast-wire : goal.overflow_cast-wire
overflow_cast-wire c =
    let below = (next ((goal.at.overflow_cast-wire c).In-Some)).below in
    omega (arith, below, c.requires.ends.fits.few_wires)

pub flit-requires : goal.flit-requires
flit-requires c = (next ((goal.at.flit-requires c).In-Some)).some

-- The outputs of its component are wires.
pub forward-requires : goal.forward-requires
forward-requires c =
    let some = (goal.at.forward-requires c).In-Some in
    let number = get_or c.deref-receivers.result.now c.in-Some.wire 0 in
    let part = c.index-parts-receivers in
    λ link own. rw c.loop-wire.invariant.size
    (output-below c.args.parts.now (length c.args.wires.now) c.requires.wired number part.result
    (slice_get_read c.args.parts.now (length c.args.parts.now) number part.result refl (within some)
    part.is) link own)

pub overflow_add-all : goal.overflow_add-all
overflow_add-all c =
    let next = next ((goal.at.overflow_add-all c).In-Some) in
    let below = next.below in
    let after = next.after in
    let few = flits_on-few c.args.wires.now c.loop-wire.invariant.from in
    omega (arith, below, after, few, c.loop-wire.invariant.all, c.requires.ends.fits.few_wires)

-- One wire more has been passed.
pub loop-wire-preserved : goal.loop-wire-preserved
loop-wire-preserved c =
    let some = (goal.at.loop-wire-preserved c).In-Some in
    let next = next some in
    let lands = lands some c.flit.result c.flit.ensures in
    let parts = c.args.parts.now in
    let wires = c.args.wires.now in
    let done = c.loop-wire.invariant in
    let wire = c.in-Some.wire in
    let below = next.below in
    let number = get_or c.deref-receivers.result.now wire 0 in
    let part = c.index-parts-receivers.result in
    let there = slice_get_read parts (length parts) number part refl (within some)
    c.index-parts-receivers.is in
    let one = flits_on-next next in
    record {
      from = wire + 1;
      left = next.behind;
      within = omega (arith, below);
      all = ap (λ n. n + 1) done.all ∙ sym one;
      size = c.forward.ensures.size ∙ done.size;
      forwarded = ForwardedTo-passed lands c.loop-wire.onward
          (ForwardedTo-until parts wires c.args.ends.now c.requires.wired c.requires.ends
          c.loop-wire.onward done.from wire done.forwarded next.after (omega (arith, below))
          next.empty)
          part (same_Some part (receiver-at lands).0 (sym there ∙ (receiver-at lands).1)) done.size
          c.forward.ensures;
    }

-- All have.
all : (c : In-None) → used_from c.args.wires.now c.loop-wire.invariant.from ≡ []
all c = sym c.loop-wire.invariant.left ∙ c.in-None.ensures.steps.0

pub returns-clause-count : goal.returns-clause-count
returns-clause-count c =
    let done = c.loop-wire.invariant in
    done.all ∙ flits_on-all c.args.wires.now done.from done.within (all c)

pub returns-clause-forwarded : goal.returns-clause-forwarded
returns-clause-forwarded c =
    let wires = c.args.wires.now in
    let done = c.loop-wire.invariant in
    ForwardedTo-until c.args.parts.now wires c.args.ends.now c.requires.wired c.requires.ends
    c.loop-wire.onward done.from (length wires) done.forwarded done.within (omega arith)
    (used-end wires done.from (all c))
