use Rattle.std.proofs.Common.{◌≡◌, List, flat_map}
use Rattle.std.specs.List.{range_with_len}
use Rattle.aeth_rtable.specs.{Entries.HasEntries, Rows.rows_of_router, declared.hops.Hop.Hop}
use Rattle.aeth_rtable.proofs.rows.rows_by.Given as goal

-- The rows of the routers so far.
abbrev pub invariant-loop-r : goal.invariant-loop-r
invariant-loop-r l = (hops : List Hop) → HasEntries l.chip.slots hops l.entries → l.rows.items
    ≡ flat_map (λ r. rows_of_router hops l.chip (record { 0 = r })) (range_with_len 0 l.r)
