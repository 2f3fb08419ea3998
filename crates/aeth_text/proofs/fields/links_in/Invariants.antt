use Rattle.std.proofs.Common.{◌≡◌, length}
use Rattle.aeth_text.{specs.Grammar.all_of, specs.Grammar.parts, specs.Grammar.words_left}
use Rattle.aeth_text.{specs.Fields.link_in, specs.Limits.comma, proofs.Fronts.with_front}
use Rattle.aeth_text.proofs.fields.links_in.Given as goal

-- The links so far, and those of the words that are left.
abbrev pub invariant-words : goal.invariant-words
invariant-words l =
    with_front l.path (all_of link_in (words_left comma l.left))
    ≡ all_of link_in (parts comma l.word)

abbrev pub decreases-words : goal.decreases-words
decreases-words l = length (words_left comma l.left)
