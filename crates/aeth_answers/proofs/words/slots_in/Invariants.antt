use Rattle.std.{proofs.Common.◌≡◌, proofs.Common.◌==◌, proofs.Common.length, specs.List.slice_split}
use Rattle.aeth_slots.specs.SlotSet.{Ascends}
use Rattle.aeth_text.specs.Limits.{comma}
use Rattle.aeth_answers.proofs.Reading.{IsReadSoFar}
use Rattle.aeth_answers.proofs.words.slots_in.Given as goal

abbrev pub invariant-loop-piece : goal.invariant-loop-piece
invariant-loop-piece l = record {
  size : l.set.size ≡ l.size;
  below : Ascends 0 l.least l.set.slots;
  read : IsReadSoFar l.size (slice_split (λ byte. byte == comma) l.fn.word) (length l.yielded)
      l.least l.set.slots;
}
