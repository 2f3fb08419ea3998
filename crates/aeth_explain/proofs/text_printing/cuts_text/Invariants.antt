use Rattle.std.proofs.Common.{◌≡◌, ◌++◌, drop, map}
use Rattle.aeth_text.specs.Spelling.{text_of_lines}
use Rattle.aeth_explain.specs.CutsText.{blocks_lines, line_of}
use Rattle.aeth_explain.proofs.text_printing.cuts_text.Given as goal

-- The blocks that are left are still to be printed.
abbrev pub invariant-loop-i : goal.invariant-loop-i
invariant-loop-i l =
    l.out.items ++ text_of_lines (blocks_lines l.app (map line_of (drop l.i l.trials)) (drop l.i l.cuts))
    ≡ l.initial.out.items ++ text_of_lines (blocks_lines l.app (map line_of l.trials) l.cuts)
