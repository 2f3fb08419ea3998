use Rattle.std.proofs.Common.{◌≡◌, ◌++◌, drop, length, map, take}
use Rattle.aeth_text.specs.Spelling.{link_word, links_word}
use Rattle.aeth_text.proofs.PrintLaws.{joined_on}
use Rattle.aeth_text.proofs.printing.push_links.Given as goal

-- The links that are left are still to be printed.
abbrev pub invariant-loop-i : goal.invariant-loop-i
invariant-loop-i l = record {
  printed : l.out.items ++ joined_on l.first (map link_word (drop l.i l.path))
      ≡ l.fn.out.items ++ links_word l.path;
  front : take (length l.fn.out.items) l.out.items ≡ l.fn.out.items;
}
