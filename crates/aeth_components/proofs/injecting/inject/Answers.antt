use Rattle.std.proofs.Common.{◌≡◌, ◌<◌, ◌+◌, ◌%◌, ◌∙◌, ap, arith, get_or, length, refl, Some}
use Rattle.std.proofs.Common.{slice_get, sym}
use Rattle.std.proofs.lemmas.Option.{same_Some, slice_get-get_or}
use Rattle.aeth_router.specs.{Part.after_of, declared.part.Part.Part}
use Rattle.aeth_components.specs.{Injecting.AreInjecting, FlitsOnWires.sends_own}
use Rattle.aeth_components.proofs.AskedLemmas.{slot-own, slot-within}
use Rattle.aeth_components.proofs.InjectLemmas.{InjectedTo, InjectedTo-first, InjectedTo-more}
use Rattle.aeth_components.proofs.InjectLemmas.{InjectedTo-parts, InjectedTo-passed}
use Rattle.aeth_components.proofs.InjectLemmas.{InjectedTo-until, InjectedTo-wires}
use Rattle.aeth_components.proofs.InjectLemmas.{InjectedTo-marked_active}
use Rattle.aeth_components.proofs.OwnLemmas.{output-below}
use Rattle.aeth_components.proofs.MarkedActiveLemmas.{AreInjecting-driven, AreInjecting-rested}
use Rattle.aeth_components.proofs.injecting.inject.Goals.{After-next-number-in-numbers}
use Rattle.aeth_components.proofs.injecting.inject.Goals.{After-index-parts-number}
use Rattle.aeth_components.proofs.injecting.inject.Goals.{After-index-parts-number-in-numbers}
use Rattle.aeth_components.proofs.injecting.inject.Goals.{After-sends_in, else-not-sends_in}
use Rattle.aeth_components.proofs.injecting.inject.Goals.{else-sends_in, then-not-sends_in}
use Rattle.aeth_components.proofs.injecting.inject.Goals.{then-sends_in}
use Rattle.aeth_components.proofs.injecting.inject.Given as given
use Rattle.aeth_components.proofs.injecting.inject.Goals as goal

-- None has driven yet.
pub numbers-init : goal.numbers-init
numbers-init g c =
    let next = c.next-number.ensures in
    record {
      injected = InjectedTo-passed
          (InjectedTo-first c.args.cycle c.args.parts.now c.args.wires.now c.args.enqueuing.now
          c.args.steps.now c.requires.waiting)
          c.args.injecting.now c.requires.injecting c.slot-slot.result c.next-number.result
          c.slot-slot.ensures next.from next.none;
      within = next.end;
      injecting = c.requires.injecting;
      size = refl;
    }

-- The marked component is as it was, and is asked for a slot of its own.
within : (g : given.Over) (c : goal.After-index-parts-number g)
    → c.numbers.number < length c.numbers.parts
within g c =
    let size : length c.numbers.parts ≡ length c.args.parts.now = c.numbers.auto.parts in
    omega (arith, c.numbers-test.true, size)

there : (g : given.Over) (c : goal.After-index-parts-number g) (default : Part)
    → slice_get c.numbers.parts c.numbers.number ≡ Some (get_or c.numbers.parts c.numbers.number default)
there g c default = slice_get-get_or c.numbers.parts c.numbers.number default (within g c)

own : (g : given.Over) (c : goal.After-index-parts-number g)
    → c.slot-slot.result ≡ c.args.cycle % length c.numbers.injecting.slots
own g c = c.slot-slot.ensures ∙ ap (λ n. c.args.cycle % n) (sym c.numbers.invariant.size)

pub sends_in-requires : goal.sends_in-requires
sends_in-requires g c =
    let index = (goal.at.sends_in-requires g c).After-index-parts-number in
    slot-within c.args.cycle c.slot-slot.result c.numbers.parts c.numbers.injecting
    c.numbers.invariant.injecting (own g index) c.numbers.number _
    (there g index c.index-parts-number.result)

-- What it says is what it sends in the cycle.
asked : (g : given.Over) (c : goal.After-sends_in g) (part : Part)
    → slice_get c.numbers.parts c.numbers.number ≡ Some part
    → sends_own c.args.cycle part ≡ c.sends_in.result
asked g c part has =
    let index = (goal.at-After-sends_in g c).After-index-parts-number in
    let at = there g index c.index-parts-number.result in
    ap (sends_own c.args.cycle) (same_Some part _ (sym has ∙ at))
    ∙ sym (c.sends_in.ensures c.args.cycle (slot-own c.args.cycle c.slot-slot.result c.numbers.parts
    c.numbers.injecting c.numbers.invariant.injecting (own g index) c.numbers.number _ at))

-- Its outputs are wires.
pub drive-requires : goal.drive-requires
drive-requires g c = λ wire is.
    let index = (goal.at.drive-requires g c).After-index-parts-number in
    let injected = c.numbers.invariant.injected in
    rw injected.links (output-below c.args.parts.now (length c.args.wires.now) c.requires.wired
    c.numbers.number _
    (sym (injected.behind c.numbers.number (omega arith))
    ∙ there g index c.index-parts-number-then-sends_in.result) wire is)

-- It drives what it sends, or sends nothing.
stepped : (g : given.Over) (c : goal.After-index-parts-number-in-numbers g)
    → InjectedTo c.args.cycle c.args.parts.now c.args.wires.now c.args.enqueuing.now
    c.args.steps.now
    (c.numbers.number + 1) c.if-sends_in.parts c.if-sends_in.wires c.if-sends_in.enqueuing
    c.if-sends_in.steps
stepped g c =
    let number = c.numbers.number in
    let asks = (goal.at-After-index-parts-number-in-numbers g c).After-sends_in in
    let index = (goal.at-After-index-parts-number-in-numbers g c).After-index-parts-number in
    let injected = c.numbers.invariant.injected in
    let before = sym (injected.behind number (omega arith)) in
    elim c.if-sends_in.branch [
      | then-sends_in w ↦
          let default = w.index-parts-number-then-sends_in.result in
          let part = get_or c.numbers.parts number default in
          rw (w.parts-is, w.wires-is, w.enqueuing-is, w.steps-is) (InjectedTo-more injected
          c.requires.wired (before ∙ there g index default)
          (asked g asks part (there g index default) ∙ w.if-sends_in.true)
          (w.drive.ensures.after ∙ ap (after_of part) w.from.ensures)
          (rw w.from.ensures at w.drive.ensures.wires) w.mark_active.ensures w.tick.ensures)
      | else-sends_in w ↦
          rw (w.parts-is, w.wires-is, w.enqueuing-is, w.steps-is) (InjectedTo-until injected
          (number + 1) (omega arith)
          (λ other found has over below.
          let same : other ≡ number = omega (arith, over, below) in
          asked g asks found (injected.behind number (omega arith)
          ∙ ap (slice_get c.args.parts.now) (sym same) ∙ has)
          ∙ w.if-sends_in.false))
    ]

-- Each that may send is marked then.
held : (g : given.Over) (c : goal.After-index-parts-number-in-numbers g)
    → AreInjecting c.if-sends_in.parts c.numbers.injecting
held g c =
    let asks = (goal.at-After-index-parts-number-in-numbers g c).After-sends_in in
    let index = (goal.at-After-index-parts-number-in-numbers g c).After-index-parts-number in
    elim c.if-sends_in.branch [
      | then-sends_in w ↦
          let default = w.index-parts-number-then-sends_in.result in
          let part = get_or c.numbers.parts c.numbers.number default in
          rw w.parts-is (AreInjecting-driven c.args.cycle c.numbers.number part _ c.numbers.parts
          c.numbers.injecting c.numbers.invariant.injecting (there g index default)
          (asked g asks part (there g index default) ∙ w.if-sends_in.true)
          (w.drive.ensures.after ∙ ap (after_of part) w.from.ensures))
      | else-sends_in w ↦ rw w.parts-is c.numbers.invariant.injecting
    ]

-- It is asked once more.
again : (g : given.Over) (c : goal.After-index-parts-number-in-numbers g)
    → slice_get c.if-sends_in.parts c.numbers.number
    ≡ Some (get_or c.if-sends_in.parts c.numbers.number c.index-parts-number-in-numbers.result)
again g c =
    let size : length c.if-sends_in.parts ≡ length c.numbers.parts = c.if-sends_in.auto.parts in
    let below = within g ((goal.at-After-index-parts-number-in-numbers g c).After-index-parts-number) in
    slice_get-get_or c.if-sends_in.parts c.numbers.number c.index-parts-number-in-numbers.result
    (omega (arith, size, below))

pub sends_in-requires-in-numbers : goal.sends_in-requires-in-numbers
sends_in-requires-in-numbers g c =
    let after = (goal.at.sends_in-requires-in-numbers g c).After-index-parts-number-in-numbers in
    let index = (goal.at.sends_in-requires-in-numbers g c).After-index-parts-number in
    slot-within c.args.cycle c.slot-slot.result c.if-sends_in.parts c.numbers.injecting (held g after)
    (own g index) c.numbers.number _ (again g after)

-- One that sends nothing more is marked no more.
rested : (g : given.Over) (c : goal.After-next-number-in-numbers g)
    → AreInjecting c.if-sends_in.parts c.if-not-sends_in.injecting
rested g c =
    let after = (goal.at-After-next-number-in-numbers g c).After-index-parts-number-in-numbers in
    let index = (goal.at-After-next-number-in-numbers g c).After-index-parts-number in
    let held = held g after in
    let again = again g after in
    let told = c.sends_in-in-numbers.ensures c.args.cycle (slot-own c.args.cycle c.slot-slot.result
    c.if-sends_in.parts c.numbers.injecting held (own g index) c.numbers.number _ again) in
    elim c.if-not-sends_in.branch [
      | then-not-sends_in w ↦
          rw w.injecting-is (AreInjecting-rested c.args.cycle c.slot-slot.result c.numbers.number _
          c.if-sends_in.parts c.numbers.injecting w.unmark.new.self held (own g index) again
          (sym told ∙ w.if-not-sends_in.true) w.unmark.ensures)
      | else-not-sends_in w ↦ rw w.injecting-is held
    ]

sized : (g : given.Over) (c : goal.After-next-number-in-numbers g)
    → length c.if-not-sends_in.injecting.slots ≡ length c.args.injecting.now.slots
sized g c = elim c.if-not-sends_in.branch [
  | then-not-sends_in w ↦ rw w.injecting-is (w.unmark.ensures.size ∙ c.numbers.invariant.size)
  | else-not-sends_in w ↦ rw w.injecting-is c.numbers.invariant.size
]

-- One more, and none up to the next that is marked sends.
pub numbers-preserved : goal.numbers-preserved
numbers-preserved g c =
    let at = (goal.at.numbers-preserved g c).After-next-number-in-numbers in
    let after = (goal.at.numbers-preserved g c).After-index-parts-number-in-numbers in
    let next = c.next-number-in-numbers.ensures in
    let injecting = rested g at in
    let size = sized g at in
    record {
      injected = InjectedTo-passed (stepped g after) c.if-not-sends_in.injecting injecting
          c.slot-slot.result c.next-number-in-numbers.result
          (c.slot-slot.ensures ∙ ap (λ n. c.args.cycle % n) (sym size)) next.from next.none;
      within = next.end;
      injecting = injecting;
      size = size;
    }

-- All have, and no other component sends.
pub returns-clause-parts : goal.returns-clause-parts
returns-clause-parts g c =
    InjectedTo-parts c.numbers.invariant.injected (omega (arith, c.numbers-test.false))

pub returns-clause-wires : goal.returns-clause-wires
returns-clause-wires g c =
    InjectedTo-wires c.numbers.invariant.injected (omega (arith, c.numbers-test.false))

pub returns-clause-enqueuing : goal.returns-clause-enqueuing
returns-clause-enqueuing g c =
    InjectedTo-marked_active c.numbers.invariant.injected (omega (arith, c.numbers-test.false))
