use Rattle.std.proofs.Common.{◌≡◌, ◌++◌, List, flat_map}
use Rattle.std.specs.List.{range_with_len}
use Rattle.aeth_rtable.specs.{Entries.HasEntries, Hops.entry_at, Rows.rows_with}
use Rattle.aeth_rtable.specs.{declared.hops.Hop.Hop}
use Rattle.aeth_rtable.proofs.rows.push_port.Given as goal

-- The rows of the slots so far.
abbrev pub invariant-loop-slot : goal.invariant-loop-slot
invariant-loop-slot l = (hops : List Hop) → HasEntries l.slots hops l.entries
    → l.rows.items ≡ l.fn.rows.items
    ++ flat_map (λ slot. rows_with l.router l.port slot (entry_at hops l.fn.link.0 slot))
    (range_with_len 0 l.slot)
