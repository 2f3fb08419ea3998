use Rattle.std.proofs.Common.{◌≡◌, ◌++◌, List, flat_map, slice_index}
use Rattle.std.specs.List.{range_with_len}
use Rattle.aeth_chip.specs.{Nodes.sends_on, declared.node.Node.TheVariants.Router}
use Rattle.aeth_rtable.specs.{Entries.HasEntries, Rows.rows_of_port, declared.hops.Hop.Hop}
use Rattle.aeth_rtable.proofs.rows.push_router.Given as goal

-- The rows of the ports so far.
abbrev pub invariant-loop-port : goal.invariant-loop-port
invariant-loop-port l = (hops : List Hop) → HasEntries l.chip.slots hops l.entries
    → l.rows.items ≡ l.fn.rows.items
    ++ flat_map (λ port. rows_of_port hops l.chip.slots l.router port
    (slice_index (sends_on (Router l.router) l.chip.links) port)) (range_with_len 0 l.port)
