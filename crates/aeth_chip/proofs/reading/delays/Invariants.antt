use Rattle.std.proofs.Common.{◌≡◌, map}
use Rattle.toml.specs.View.{table_view}
use Rattle.aeth_base.specs.Limits.{max_link_delay}
use Rattle.aeth_chip.specs.Told.{delay_at, link_tables}
use Rattle.aeth_document.specs.{Arrays.tables_in, Walks.outside, Walks.walked}
use Rattle.aeth_chip.proofs.reading.delays.Given as goal

abbrev pub invariant-loop-link : goal.invariant-loop-link
invariant-loop-link l =
    walked l.walk (map (λ t. outside 1 max_link_delay (delay_at t)) (tables_in l.link-iterator))
    ≡ walked l.fn.walk
    (map (λ t. outside 1 max_link_delay (delay_at t)) (link_tables (table_view l.root)))
