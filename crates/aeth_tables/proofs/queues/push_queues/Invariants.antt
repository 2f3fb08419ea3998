use Rattle.std.proofs.Common.{◌≡◌, ◌++◌, flat_map}
use Rattle.std.specs.List.{range_with_len}
use Rattle.aeth_tables.specs.TableText.{list_at, queues_with}
use Rattle.aeth_text.specs.Spelling.{text_of_lines}
use Rattle.aeth_tables.proofs.queues.push_queues.Given as goal

-- The lines of the interfaces so far were printed.
abbrev pub invariant-loop-ni : goal.invariant-loop-ni
invariant-loop-ni l = l.out.items ≡ l.fn.out.items ++ text_of_lines (flat_map
    (λ ni. queues_with l.chip l.app (list_at l.lists ni) ni) (range_with_len 0 l.ni))
