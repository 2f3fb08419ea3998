use Rattle.std.proofs.Common.{rules, nat_le}
use Rattle.std.proofs.lemmas.List.Sorted.{IsPartitionPoint-from_clause, IsPartitionedBy-leb}
use Rattle.aeth_audit.proofs.sessions.gone_by.Goals as goal

-- Those that have gone are the first ones.
pub returns-clause-point : goal.returns-clause-point
returns-clause-point c =
    IsPartitionPoint-from_clause (λ session. nat_le session.go c.args.cycle) _ _
    c.partition_point.ensures.partitioned
    (IsPartitionedBy-leb (λ session. session.go) c.args.sessions.now c.args.cycle c.requires)
    (λ a r f k. search rules)
