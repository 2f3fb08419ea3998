use Rattle.std.proofs.Common.{◌≡◌, ◌++◌, drop, map}
use Rattle.aeth_plan.specs.{PlanText.grant_words, Spelling.grant_line}
use Rattle.aeth_text.specs.Spelling.{text_of_lines}
use Rattle.aeth_plan.proofs.printing.push_grants.Given as goal

-- The lines that are left are still to be printed.
abbrev pub invariant-loop-grant : goal.invariant-loop-grant
invariant-loop-grant l =
    l.out.items ++ text_of_lines
    (map grant_line (map (grant_words l.app) (drop l.grant-index l.grants)))
    ≡ l.fn.out.items ++ text_of_lines (map grant_line (map (grant_words l.app) l.grants))
