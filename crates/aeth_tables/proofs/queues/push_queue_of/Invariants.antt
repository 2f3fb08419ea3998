use Rattle.std.proofs.Common.{◌≡◌, ◌++◌, drop}
use Rattle.aeth_tables.specs.TableText.{lines_of_queue}
use Rattle.aeth_text.specs.Spelling.{text_of_lines}
use Rattle.aeth_tables.proofs.queues.push_queue_of.Given as goal

-- The lines of the rows that are left are still to be printed.
abbrev pub invariant-loop-one : goal.invariant-loop-one
invariant-loop-one l =
    l.out.items ++ text_of_lines (lines_of_queue l.app l.name (drop l.one-index l.rows) l.queue)
    ≡ l.fn.out.items ++ text_of_lines (lines_of_queue l.app l.name l.rows l.queue)
