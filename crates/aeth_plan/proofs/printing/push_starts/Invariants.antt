use Rattle.std.proofs.Common.{◌≡◌, ◌++◌, map, decimal}
use Rattle.aeth_text.{specs.Spelling.numbers_word, proofs.PrintLaws.joined_on}
use Rattle.aeth_plan.proofs.printing.push_starts.Given as goal

-- The starts that are left are still to be printed.
abbrev pub invariant-loop-slot : goal.invariant-loop-slot
invariant-loop-slot l =
    l.out.items ++ joined_on l.first (map decimal l.slot-iterator)
    ≡ l.fn.out.items ++ numbers_word l.set.slots
