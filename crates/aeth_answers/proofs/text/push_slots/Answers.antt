use Rattle.std.proofs.Common.{◌∙◌, ℕ, ◌++◌, ap, sym, append_assoc}
use Rattle.std.proofs.lemmas.Iterator.Consumers.{YieldsList-end, YieldsList-from_first}
use Rattle.std.specs.Fmt.{decimal}
use Rattle.aeth_answers.proofs.Listing.{list_text-cons}
use Rattle.aeth_answers.proofs.text.push_slots.Goals as goal

-- The first slot and those that the loop went through are the set's slots.
pub returns-clause-ok : goal.returns-clause-ok
returns-clause-ok c =
    let first = c.in-Some.first in
    let gone = c.loop-slot.yielded in
    let starts = sym c.iter-slots.ensures ∙ c.in-Some.ensures.steps in
    let list = YieldsList-from_first (λ (n : ℕ). n) (λ slots.
    slots) c.next.new.self c.into_iter-slot-iterator.ensures.into_iter_gives in
    let goes = YieldsList-end list gone _ c.loop-slot.yielded_by _ _ c.in-None.is
    c.next-in-loop-slot.ensures.steps in
    c.loop-slot.invariant ∙ append_assoc c.args.text.now.items (decimal first) _
    ∙ ap (λ listed. c.args.text.now.items ++ listed)
    (list_text-cons c.args.set.now.slots first c.next.new.self gone starts goes.0)
