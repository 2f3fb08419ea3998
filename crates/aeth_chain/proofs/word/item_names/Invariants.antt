use Rattle.std.proofs.Common.{◌≡◌, ◌≤◌, length}
use Rattle.aeth_text.specs.{Grammar.parts, Grammar.words_left, Limits.comma}
use Rattle.aeth_text.proofs.Fronts.{with_front}
use Rattle.aeth_chain.specs.{Limits.max_chain_items, ItemNames.items_in}
use Rattle.aeth_chain.proofs.word.item_names.Given as goal

-- The items so far, and those of the pieces that are left.
abbrev pub invariant-pieces : goal.invariant-pieces
invariant-pieces l = (length l.names ≤ max_chain_items)
    × (with_front l.names (items_in (words_left comma l.left)) ≡ items_in (parts comma l.word))

abbrev pub decreases-pieces : goal.decreases-pieces
decreases-pieces l = length (words_left comma l.left)
