use Rattle.std.proofs.Common.{◌≡◌, ◌++◌, flat_map}
use Rattle.std.specs.List.{range_with_len}
use Rattle.aeth_tables.specs.TableText.{entries_with, list_at}
use Rattle.aeth_text.specs.Spelling.{text_of_lines}
use Rattle.aeth_tables.proofs.entries.push_entries.Given as goal

-- The lines of the interfaces so far were printed.
abbrev pub invariant-loop-ni : goal.invariant-loop-ni
invariant-loop-ni l = l.out.items ≡ l.fn.out.items ++ text_of_lines (flat_map
    (λ ni. entries_with l.chip (list_at l.lists ni) ni) (range_with_len 0 l.ni))
