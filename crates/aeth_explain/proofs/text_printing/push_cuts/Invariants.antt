use Rattle.std.proofs.Common.{◌≡◌, ◌++◌, drop, length, map, take}
use Rattle.aeth_text.specs.Spelling.{text_of_lines}
use Rattle.aeth_explain.specs.CutsText.{cut_line}
use Rattle.aeth_explain.proofs.text_printing.push_cuts.Given as goal

-- The lines that are left are still to be printed.
abbrev pub invariant-loop-cut : goal.invariant-loop-cut
invariant-loop-cut l = record {
  printed : l.out.items ++ text_of_lines (map cut_line (drop l.cut-index l.cuts))
      ≡ l.fn.out.items ++ text_of_lines (map cut_line l.cuts);
  front : take (length l.fn.out.items) l.out.items ≡ l.fn.out.items;
}
