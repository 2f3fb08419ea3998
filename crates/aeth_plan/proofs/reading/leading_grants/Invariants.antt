use Rattle.std.proofs.Common.{◌≡◌, ◌++◌, length}
use Rattle.aeth_text.specs.Grammar.{behind, leading, lines_of, rest_of}
use Rattle.aeth_plan.specs.Lines.{grant_in}
use Rattle.aeth_plan.proofs.reading.leading_grants.Given as goal

-- The grants so far and those of the lines that are left are those of all lines.
abbrev pub invariant-lines : goal.invariant-lines
invariant-lines l = record {
  grants : l.grants.items ++ leading grant_in (lines_of l.left)
      ≡ leading grant_in (lines_of l.text);
  lines : behind grant_in (lines_of l.left) ≡ behind grant_in (lines_of l.text);
  rest : rest_of l.left ≡ rest_of l.text;
}

abbrev pub decreases-lines : goal.decreases-lines
decreases-lines l = length l.left
