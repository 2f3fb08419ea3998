use Rattle.std.proofs.Common.{◌≡◌, ◌++◌, drop, map}
use Rattle.std.specs.List.{enumerate_from}
use Rattle.aeth_text.specs.Spelling.{text_of_lines}
use Rattle.aeth_report.specs.LogText.{link_line}
use Rattle.aeth_report.proofs.text.push_links.Given as goal

-- The links that are left are still to be printed.
abbrev pub invariant-loop-count : goal.invariant-loop-count
invariant-loop-count l = record {
  counted : l.link ≡ l.count-index;
  printed : l.out.items ++ text_of_lines
      (map link_line (enumerate_from l.count-index (drop l.count-index l.flits)))
      ≡ l.fn.out.items ++ text_of_lines (map link_line (enumerate_from 0 l.flits));
}
