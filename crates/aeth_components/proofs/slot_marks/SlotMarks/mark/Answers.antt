use Rattle.std.proofs.Common.{◌<◌, ◌+◌, ◌∙◌, List, ℕ, [], ap, arith, length, get_or-set_same, sym}
use Rattle.std.specs.List.{All}
use Rattle.aeth_base.specs.Marks.{bit_of, room_of}
use Rattle.aeth_components.proofs.SlotMarkLemmas.{AreFilled-marked, MarksMore-set}
use Rattle.aeth_components.proofs.slot_marks.SlotMarks.mark.Goals as goal

-- The number has come in its slot.
pub returns-clause-more : goal.returns-clause-more
returns-clause-more c =
    let all = c.self.inside in
    let size = ap (λ (slots : List (List ℕ)). length slots) c.self.view_is in
    rw (sym c.self.view_is) (MarksMore-set c.args.number c.args.slot all.marks.items c.index_mut.result.now c.mark.new.self
    (omega (arith, size, c.requires.slot)) c.index_mut.ensures.value c.mark.ensures.room c.mark.ensures.here
    c.mark.ensures.away)

pub returns-clause-here : goal.returns-clause-here
returns-clause-here c =
    let all = c.self.inside in
    let size = ap (λ (slots : List (List ℕ)). length slots) c.self.view_is in
    ap (λ (marks : List ℕ). bit_of marks c.args.number)
    (get_or-set_same all.marks.items c.args.slot c.mark.new.self [] (omega (arith, size, c.requires.slot)))
    ∙ c.mark.ensures.here

-- Its slot is marked.
pub invariant_of-self : goal.invariant_of-self
invariant_of-self c =
    let all = c.self.inside in
    let are = c.self.invariant in
    let number = c.args.number in
    let size = ap (λ (slots : List (List ℕ)). length slots) c.self.view_is in
    let more = MarksMore-set number c.args.slot all.marks.items c.index_mut.result.now c.mark.new.self
    (omega (arith, size, c.requires.slot)) c.index_mut.ensures.value c.mark.ensures.room c.mark.ensures.here
    c.mark.ensures.away in
    let rooms : All (λ marks. number + 1 < room_of marks) all.marks.items = rw c.self.view_is c.requires.room in
    let low = are.low in
    let least = c.max-self-inside.ensures in
    let few = c.requires.number in
    AreFilled-marked number c.args.slot all.end c.max-self-inside.result all.marks.items c.mark.new.self all.filled
    c.mark-2.new.self are more c.mark-2.ensures.room c.mark-2.ensures.here c.mark-2.ensures.away
    (λ place default within.
    let before = are.ends place default within in
    let own = rooms place default within in
    omega (arith, before, own, least)) (omega (arith, least)) (omega (arith, least))
    (omega (arith, least, low, few))
