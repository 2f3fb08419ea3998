use Rattle.std.proofs.Common.{◌≡◌, ◌++◌, length}
use Rattle.aeth_text.specs.Grammar.{behind, leading, lines_of, rest_of}
use Rattle.aeth_explain.specs.Texts.{line_in}
use Rattle.aeth_explain.proofs.text_reading.leading_lines.Given as goal

-- What the lines so far say and what those that are left do are what all lines say.
abbrev pub invariant-lines : goal.invariant-lines
invariant-lines l = record {
  front : l.front.items ++ leading line_in (lines_of l.left) ≡ leading line_in (lines_of l.text);
  lines : behind line_in (lines_of l.left) ≡ behind line_in (lines_of l.text);
  rest : rest_of l.left ≡ rest_of l.text;
}

abbrev pub decreases-lines : goal.decreases-lines
decreases-lines l = length l.left
