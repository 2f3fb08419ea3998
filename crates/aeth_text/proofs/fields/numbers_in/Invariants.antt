use Rattle.std.proofs.Common.{◌≡◌, length}
use Rattle.aeth_text.{specs.Grammar.all_of, specs.Grammar.parts, specs.Grammar.words_left}
use Rattle.aeth_text.{specs.Fields.number_in, specs.Limits.comma, proofs.Fronts.with_front}
use Rattle.aeth_text.proofs.fields.numbers_in.Given as goal

-- The numbers so far, and those of the words that are left.
abbrev pub invariant-words : goal.invariant-words
invariant-words l =
    with_front l.numbers.items (all_of number_in (words_left comma l.left))
    ≡ all_of number_in (parts comma l.word)

abbrev pub decreases-words : goal.decreases-words
decreases-words l = length (words_left comma l.left)
