use Rattle.std.proofs.Common.{◌≡◌, ◌++◌, flat_map}
use Rattle.std.specs.List.{range_with_len}
use Rattle.aeth_plan.specs.Plan.{name_at}
use Rattle.aeth_tables.specs.TableText.{lines_of_slot}
use Rattle.aeth_text.specs.Spelling.{text_of_lines}
use Rattle.aeth_tables.proofs.entries.push_entries_at.Given as goal

-- The lines of the slots so far were printed.
abbrev pub invariant-loop-slot : goal.invariant-loop-slot
invariant-loop-slot l = l.out.items ≡ l.fn.out.items ++ text_of_lines (flat_map
    (lines_of_slot (name_at l.chip.nis l.fn.ni.0) l.own) (range_with_len 0 l.slot))
