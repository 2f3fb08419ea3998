-- The rows of what is seen on wires.
-- This project's own.
use Rattle.std.proofs.Common.{ℕ, ◌-◌, List, Option, flat_map, map}
use Rattle.std.specs.{List.range_with_len, Option.option_to_list}
use Rattle.aeth_clocked.specs.{Wires.flit_on, declared.flit.Flit.Flit}
use Rattle.aeth_audit.specs.declared.row.LinkRow.{LinkRow}
use Rattle.aeth_links.specs.Carried.{row_of}

-- The row of the flit on a wire in a cycle, where it has one.
abbrev pub rows_at : List (Option Flit) → ℕ → ℕ → List LinkRow
rows_at wires t l = map (row_of t l) (option_to_list (flit_on wires l))

-- Those of the wires from a number on, below another.
abbrev pub rows_from : List (Option Flit) → ℕ → ℕ → ℕ → List LinkRow
rows_from wires links t l = flat_map (rows_at wires t) (range_with_len l (links - l))

-- Those of all wires below a number.
abbrev pub rows_seen : List (Option Flit) → ℕ → ℕ → List LinkRow
rows_seen wires links t = flat_map (rows_at wires t) (range_with_len 0 links)
