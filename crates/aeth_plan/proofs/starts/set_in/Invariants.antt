use Rattle.std.proofs.Common.{◌≡◌, ◌≤◌, length}
use Rattle.aeth_slots.specs.SlotSet.{Ascends}
use Rattle.aeth_text.{specs.Fields.number_in, specs.Grammar.all_of, specs.Grammar.parts}
use Rattle.aeth_text.{specs.Grammar.words_left, specs.Limits.comma, proofs.Fronts.with_front}
use Rattle.aeth_plan.proofs.starts.set_in.Given as goal

-- The starts so far, and those of the words that are left.
abbrev pub invariant-words : goal.invariant-words
invariant-words l = record {
  size : l.set.size ≡ l.fn.size;
  starts : with_front l.set.slots (all_of number_in (words_left comma l.left))
      ≡ all_of number_in (parts comma l.fn.word);
  ascends : Ascends 0 l.next l.set.slots;
  within : l.next ≤ l.fn.size;
  some : 1 ≤ l.next → 1 ≤ length l.set.slots;
}

abbrev pub decreases-words : goal.decreases-words
decreases-words l = length (words_left comma l.left)
