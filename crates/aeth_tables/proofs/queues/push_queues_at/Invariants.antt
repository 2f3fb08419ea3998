use Rattle.std.proofs.Common.{◌≡◌, ◌++◌, flat_map}
use Rattle.std.specs.List.{range_with_len}
use Rattle.aeth_plan.specs.Plan.{name_at}
use Rattle.aeth_tables.specs.TableText.{lines_of_queue}
use Rattle.aeth_text.specs.Spelling.{text_of_lines}
use Rattle.aeth_tables.proofs.queues.push_queues_at.Given as goal

-- The lines of the queues so far were printed.
abbrev pub invariant-loop-queue : goal.invariant-loop-queue
invariant-loop-queue l = l.out.items ≡ l.fn.out.items ++ text_of_lines (flat_map
    (lines_of_queue l.app (name_at l.chip.nis l.fn.ni.0) l.own) (range_with_len 0 l.queue))
