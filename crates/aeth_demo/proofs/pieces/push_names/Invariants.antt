use Rattle.std.proofs.Common.{◌≡◌, ◌++◌}
use Rattle.aeth_demo.{specs.Pieces.name_at, specs.Pieces.texts_below, proofs.Loops.texts_from}
use Rattle.aeth_demo.proofs.pieces.push_names.Given as goal

-- What is there and what is still to come is the whole.
abbrev pub invariant-loop-place : goal.invariant-loop-place
invariant-loop-place l =
    l.text.items ++ texts_from (name_at l.letter l.first) l.count l.place
    ≡ l.fn.text.items ++ texts_below (name_at l.letter l.first) l.count
