use Rattle.std.proofs.Common.{◌≡◌, ◌++◌, drop}
use Rattle.aeth_tables.specs.TableText.{lines_of_slot}
use Rattle.aeth_text.specs.Spelling.{text_of_lines}
use Rattle.aeth_tables.proofs.entries.push_slot.Given as goal

-- The lines of the rows that are left are still to be printed.
abbrev pub invariant-loop-one : goal.invariant-loop-one
invariant-loop-one l =
    l.out.items ++ text_of_lines (lines_of_slot l.name (drop l.one-index l.rows) l.slot)
    ≡ l.fn.out.items ++ text_of_lines (lines_of_slot l.name l.rows l.slot)
