use Rattle.std.proofs.Common.{◌≡◌, ◌++◌, length}
use Rattle.aeth_explain.specs.CutsText.{blocks_of}
use Rattle.aeth_explain.proofs.known_lines.blocks_of.Given as goal

-- The blocks so far and those of the lines that are left.
abbrev pub invariant-lines : goal.invariant-lines
invariant-lines l = l.blocks.items ++ blocks_of l.left ≡ blocks_of l.known

abbrev pub decreases-lines : goal.decreases-lines
decreases-lines l = length l.left
