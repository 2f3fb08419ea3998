use Rattle.std.proofs.Common.{◌≡◌, ◌+◌, ◌-◌, ◌∙◌, ap, arith, inl, inr}
use Rattle.std.proofs.lemmas.Bool.{cases_eq, cases_lt}
use Rattle.aeth_base.specs.Marks.{bit_of}
use Rattle.aeth_components.specs.{Injecting.place_of_entry, SlotMarks.marks_at}
use Rattle.aeth_components.proofs.SlotMarkLemmas.{MarksMore-more, MarksMore-room}
use Rattle.aeth_components.proofs.injecting.Injecting.mark_active.Goals as goal

-- One slot more is marked, and those up to the next one have no entry of the queue.
pub places-preserved : goal.places-preserved
places-preserved c =
    let done = c.places.invariant in
    let place = c.places.place in
    let first = c.place_of-first.result in
    let next = c.next-place-in-places.ensures in
    let number = c.args.number in
    let from = c.place_of-first.ensures.place in
    let least = done.least in
    record {
      entries = done.entries;
      more = MarksMore-more done.more c.mark.ensures.more;
      least = omega (arith, least, next.from);
      most = next.end;
      own = λ slot less entered. elim (cases_lt (first + slot) place) [
        | inl before ↦ c.mark.ensures.more.kept number slot (done.own slot before entered)
        | inr since ↦ elim (cases_eq (first + slot) place) [
          | inl here ↦
              ap (λ n. bit_of (marks_at c.mark.new.self n) number)
              (let same : slot ≡ place - first = omega (arith, here, least) in same)
              ∙ c.mark.ensures.here
          | inr apart ↦
              let none = next.none (first + slot) (omega (arith, since, apart)) less in
              let at : first + slot ≡ place_of_entry number c.args.queue slot = omega (arith, from) in
              let bit = ap (λ entries. bit_of entries (first + slot)) done.entries
              ∙ ap (bit_of c.args.self.now.entries) at ∙ entered in
              absurd (omega (arith, none, bit))
        ]
      ];
    }

-- There is room for it.
pub mark-requires-clause-room : goal.mark-requires-clause-room
mark-requires-clause-room c =
    MarksMore-room (c.args.number + 1) c.places.invariant.more c.requires.room
