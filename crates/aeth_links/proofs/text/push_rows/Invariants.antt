use Rattle.std.proofs.Common.{◌≡◌, ◌≤◌, ◌-◌, ◌++◌, length}
use Rattle.aeth_links.specs.{Carried.lines_of, Seen.rows_from}
use Rattle.aeth_links.proofs.text.push_rows.Given as goal

-- The lines from the next wire with a flit on are still to be put behind the text.
abbrev pub invariant-rows : goal.invariant-rows
invariant-rows l = record {
  lines : l.text.items ++ lines_of (rows_from l.wires l.links l.cycle l.link)
      ≡ l.fn.text.items ++ lines_of (rows_from l.wires l.links l.cycle 0);
  within : l.link ≤ length l.wires;
}

abbrev pub decreases-rows : goal.decreases-rows
decreases-rows l = l.links - l.link
