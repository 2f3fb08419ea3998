use Rattle.std.proofs.Common.{◌≡◌, ◌<◌, ◌+◌, ◌∙◌, ap, arith, inl, inr, length, refl, slice_get}
use Rattle.std.proofs.Common.{Some, sym, List, ℕ}
use Rattle.std.proofs.lemmas.{Bool.cases_eq, List.length-map, Option.same_Some}
use Rattle.std.proofs.lemmas.{Option.slice_get_read}
use Rattle.aeth_base.specs.Marks.{marked_from}
use Rattle.aeth_components.specs.{Injecting.entries_of, SlotMarks.marks_at}
use Rattle.aeth_components.specs.{FlitsOnWires.AreSendersMarked, FlitsOnWires.sends_own}
use Rattle.aeth_components.proofs.AskedLemmas.{slot-own, slot-within}
use Rattle.aeth_components.proofs.MarkedSenders.{AreInjecting-below, AreInjecting-sends}
use Rattle.aeth_components.proofs.MarkLemmas.{NextMarked, next-marked}
use Rattle.aeth_components.proofs.OwnLemmas.{mute-behind, sender-since}
use Rattle.aeth_components.proofs.sending.does_send.Goals.{After-at, After-sends_in, In-Some}
use Rattle.aeth_components.proofs.sending.does_send.Goals.{After-index-parts-number}
use Rattle.aeth_components.proofs.sending.does_send.Goals as goal

pub loop-number-init : goal.loop-number-init
loop-number-init c = record {
  from = 0;
  left = c.into_iter-number-iterator.ensures.into_iter_gives ∙ c.iter-number-items.ensures
      ∙ ap (λ (marks : List ℕ). marked_from marks 0) c.at.ensures;
  rest = λ sender. omega arith;
}

-- Who sends is marked in the slot.
senders : (c : goal.After-at) → AreSendersMarked c.args.cycle c.args.parts.now
    (marks_at c.args.injecting.now.slots c.slot-slot.result)
senders c =
    rw c.slot-slot.ensures (AreInjecting-sends c.args.cycle c.args.parts.now
    c.args.injecting.now c.requires)

-- The next marked number is that of a component.
next : (c : goal.In-Some)
    → NextMarked (marks_at c.args.injecting.now.slots c.slot-slot.result)
    c.loop-number.invariant.from c.in-Some.number c.next.new.self
next c = next-marked (sym c.loop-number.invariant.left ∙ c.in-Some.ensures.steps)

within : (c : goal.In-Some) → c.in-Some.number < length c.args.parts.now
within c =
    AreInjecting-below c.args.parts.now c.args.injecting.now c.requires c.in-Some.number
    c.slot-slot.result (next c).is

pub offset_bounds-parts-number : goal.offset_bounds-parts-number
offset_bounds-parts-number c =
    let tables = length-map c.args.parts.now entries_of in
    let few = c.requires.tables.places.few in
    omega (arith, within ((goal.at.offset_bounds-parts-number c).In-Some), few, tables)

pub bounds-parts-number : goal.bounds-parts-number
bounds-parts-number c = within ((goal.at.bounds-parts-number c).In-Some)

-- It is asked, for a slot of its own.
asked : (c : goal.After-index-parts-number)
    → slice_get c.args.parts.now c.in-Some.number ≡ Some c.index-parts-number.result
asked c =
    slice_get_read c.args.parts.now (length c.args.parts.now) c.in-Some.number
    c.index-parts-number.result refl (within ((goal.at-After-index-parts-number c).In-Some))
    c.index-parts-number.is

pub sends_in-requires : goal.sends_in-requires
sends_in-requires c =
    slot-within c.args.cycle c.slot-slot.result c.args.parts.now c.args.injecting.now c.requires
    c.slot-slot.ensures c.in-Some.number c.index-parts-number.result
    (asked ((goal.at.sends_in-requires c).After-index-parts-number))

-- What it says is what it sends in the cycle.
told : (c : goal.After-sends_in) → c.sends_in.result ≡ sends_own c.args.cycle c.index-parts-number.result
told c =
    c.sends_in.ensures c.args.cycle (slot-own c.args.cycle c.slot-slot.result c.args.parts.now
    c.args.injecting.now c.requires c.slot-slot.ensures c.in-Some.number
    c.index-parts-number.result (asked ((goal.at-After-sends_in c).After-index-parts-number)))

-- This one sends.
pub returns-then-sends_in : goal.returns-then-sends_in
returns-then-sends_in c = (
  λ is. record {
    number = c.in-Some.number;
    part = c.index-parts-number.result;
    at = asked ((goal.at.returns-then-sends_in c).After-index-parts-number);
    sends = sym (told ((goal.at.returns-then-sends_in c).After-sends_in)) ∙ c.if-sends_in.true;
  },
  λ sender. refl,
)

-- It doesn't, nor do those up to it.
pub loop-number-preserved : goal.loop-number-preserved
loop-number-preserved c =
    let parts = c.args.parts.now in
    let number = c.in-Some.number in
    let done = c.loop-number.invariant in
    let next = next ((goal.at.loop-number-preserved c).In-Some) in
    let at = asked ((goal.at.loop-number-preserved c).After-index-parts-number) in
    record {
      from = number + 1;
      left = next.behind;
      rest = λ sender. elim (cases_eq sender.number number) [
        | inl same ↦
            let one : c.index-parts-number.result ≡ sender.part =
            same_Some c.index-parts-number.result sender.part
            (sym at ∙ ap (slice_get parts) (sym same) ∙ sender.at) in
            absurd (cc (sym c.if-sends_in.false
            ∙ told ((goal.at.loop-number-preserved c).After-sends_in)
            ∙ ap (sends_own c.args.cycle) one ∙ sender.sends))
        | inr apart ↦
            let since = sender-since c.args.cycle parts
            (marks_at c.args.injecting.now.slots c.slot-slot.result)
            (senders ((goal.at.loop-number-preserved c).After-at)) next sender (done.rest sender) in
            omega (arith, since, apart)
      ];
    }

-- All that may inject were asked.
pub returns : goal.returns
returns c = (
  λ is. absurd (cc is),
  λ sender.
      let done = c.loop-number.invariant in
      let mute = mute-behind c.args.cycle c.args.parts.now
      (marks_at c.args.injecting.now.slots c.slot-slot.result)
      (senders ((goal.at.returns c).After-at)) (sym done.left ∙ c.in-None.ensures.steps.0)
      sender.number sender.part sender.at (done.rest sender) in
      absurd (cc (sym mute ∙ sender.sends)),
)
