use Rattle.std.proofs.Common.{◌≡◌, ◌∙◌, ◌++◌, ◌∷◌, [], sym, ap, arith, length-append}
use Rattle.aeth_slots.specs.SlotSet.{Slots}
use Rattle.aeth_text.specs.Fields.{number_in}
use Rattle.aeth_plan.proofs.StartLaws.{all_starts, are_ascending-of, ascends_on, words_on}
use Rattle.aeth_plan.proofs.starts.set_in.Goals as goal

-- One start more.
pub words-preserved : goal.words-preserved
words-preserved c =
    let old = c.words.set.slots in
    let n = c.in_ok-number.number in
    let asc = ascends_on c.words.next n old c.words.invariant.ascends
    (omega (arith, c.if-number-next.false)) in
    let grows : c.insert.new.self.slots ≡ old ++ n ∷ [] = c.insert.ensures.last asc.0 in
    record {
      size = ap (λ (set : Slots). set.size) c.insert.ensures.set ∙ c.words.invariant.size;
      starts = words_on number_in old _ _ _ n _ _ c.in-Some.ensures
          (sym c.number_in.ensures ∙ c.in_ok-number.was) grows c.words.invariant.starts;
      ascends = rw grows asc.1;
      within = omega (arith, c.if-number-size.false);
      some = λ positive. rw (grows, length-append old (n ∷ [])) (omega arith);
    }

-- The starts are at least one, and ascend.
pub returns-clause-ascending : goal.returns-clause-ascending
returns-clause-ascending c =
    are_ascending-of c.words.next c.words.set.slots
    (c.words.invariant.some (omega (arith, c.if-next-eq0.false))) c.words.invariant.ascends

pub returns-clause-found : goal.returns-clause-found
returns-clause-found c =
    all_starts c.args.word.now c.words.set.slots _ c.in_default.ensures
    c.words.invariant.starts
    (are_ascending-of c.words.next c.words.set.slots
    (c.words.invariant.some (omega (arith, c.if-next-eq0.false))) c.words.invariant.ascends)
