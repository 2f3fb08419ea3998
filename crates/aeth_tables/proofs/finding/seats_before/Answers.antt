use Rattle.std.proofs.{Common.rules, Common.nat_lt, lemmas.List.Sorted.IsPartitionPoint-from_clause}
use Rattle.aeth_group.specs.declared.grant.SeatLine.{SeatLine}
use Rattle.aeth_tables.proofs.SearchLaws.{seats-first}
use Rattle.aeth_tables.proofs.finding.seats_before.Goals as goal

-- Those of cores before it are the first ones.
pub returns : goal.returns
returns c =
    IsPartitionPoint-from_clause (λ (line : SeatLine). nat_lt line.core.0 c.args.core.0) _ _
    c.partition_point.ensures.partitioned
    (seats-first c.args.seats.now c.requires c.args.core) (λ a r f k. search rules)
