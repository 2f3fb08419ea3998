use Rattle.std.proofs.Common.{◌≡◌, ◌<◌, ◌∙◌, List, ℕ, [], ap, arith, inl, inr, length, refl, set}
use Rattle.std.proofs.Common.{sym}
use Rattle.std.proofs.lemmas.{Bool.cases_eq, List.get_or_default}
use Rattle.aeth_base.specs.Marks.{bit_of}
use Rattle.aeth_components.specs.SlotMarks.{MarksLess, marks_at}
use Rattle.aeth_components.proofs.SlotMarkLemmas.{AreFilled-less, MarksLess-set}
use Rattle.aeth_components.proofs.slot_marks.SlotMarks.unmark.Goals as goal

-- The number has gone from its slot.
pub returns-then-next-self : goal.returns-then-next-self
returns-then-next-self c =
    let all = c.self.inside in
    let size = ap (λ (slots : List (List ℕ)). length slots) c.self.view_is in
    rw (sym c.self.view_is) (MarksLess-set c.args.number c.args.slot all.marks.items c.index_mut.result.now c.unmark.new.self
    (omega (arith, size, c.requires.slot)) c.index_mut.ensures.value c.unmark.ensures.room c.unmark.ensures.here
    c.unmark.ensures.away)

pub returns-else-next-self : goal.returns-else-next-self
returns-else-next-self c =
    let all = c.self.inside in
    let size = ap (λ (slots : List (List ℕ)). length slots) c.self.view_is in
    rw (sym c.self.view_is) (MarksLess-set c.args.number c.args.slot all.marks.items c.index_mut.result.now c.unmark.new.self
    (omega (arith, size, c.requires.slot)) c.index_mut.ensures.value c.unmark.ensures.room c.unmark.ensures.here
    c.unmark.ensures.away)

-- A slot is marked no more in which none is left.
pub invariant_of-self : goal.invariant_of-self
invariant_of-self c =
    let all = c.self.inside in
    let are = c.self.invariant in
    let number = c.args.number in
    let slot = c.args.slot in
    let size = ap (λ (slots : List (List ℕ)). length slots) c.self.view_is in
    let now = set all.marks.items slot c.unmark.new.self in
    let less : MarksLess number slot all.marks.items now =
    MarksLess-set number slot all.marks.items c.index_mut.result.now c.unmark.new.self
    (omega (arith, size, c.requires.slot)) c.index_mut.ensures.value c.unmark.ensures.room c.unmark.ensures.here
    c.unmark.ensures.away in
    let within : slot < length now = (let same = less.size in omega (arith, same, size, c.requires.slot)) in
    AreFilled-less number slot all.end all.marks.items now all.filled c.unmark-then-next-self.new.self are less
    c.unmark-then-next-self.ensures.room (λ at other bit was. elim (cases_eq at slot) [
      | inr apart ↦ c.unmark-then-next-self.ensures.away at apart ∙ was
      | inl same ↦
          let here : bit_of (marks_at now slot) other ≡ 1 =
          ap (λ n. bit_of (marks_at now n) other) (sym same) ∙ bit in
          let below = are.below slot other (less.gone other slot here) in
          let read : c.index.result.now ≡ marks_at now slot =
          c.index.ensures ∙ get_or_default now slot c.index.result.now [] within in
          let none = c.next.ensures.none other (omega arith) (omega (arith, below, c.if-next-self.true)) in
          let one = ap (λ (marks : List ℕ). bit_of marks other) read ∙ here in
          absurd (omega (arith, none, one))
    ])

-- Else it stays.
pub invariant_of-self-else-next-self : goal.invariant_of-self-else-next-self
invariant_of-self-else-next-self c =
    let all = c.self.inside in
    let are = c.self.invariant in
    let number = c.args.number in
    let slot = c.args.slot in
    let size = ap (λ (slots : List (List ℕ)). length slots) c.self.view_is in
    let now = set all.marks.items slot c.unmark.new.self in
    let less : MarksLess number slot all.marks.items now =
    MarksLess-set number slot all.marks.items c.index_mut.result.now c.unmark.new.self
    (omega (arith, size, c.requires.slot)) c.index_mut.ensures.value c.unmark.ensures.room c.unmark.ensures.here
    c.unmark.ensures.away in
    AreFilled-less number slot all.end all.marks.items now all.filled all.filled are less refl
    (λ at other bit was. was)
