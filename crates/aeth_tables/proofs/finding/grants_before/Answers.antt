use Rattle.std.proofs.{Common.rules, lemmas.List.Sorted.IsPartitionPoint-from_clause}
use Rattle.aeth_plan.specs.UnitGrants.{is_before}
use Rattle.aeth_tables.proofs.SearchLaws.{before-first}
use Rattle.aeth_tables.proofs.finding.grants_before.Goals as goal

-- Those that come before are the first ones.
pub returns : goal.returns
returns c =
    IsPartitionPoint-from_clause (is_before c.args.unit c.args.side) _ _
    c.partition_point.ensures.partitioned
    (before-first c.args.unit c.args.side c.args.grants.now c.requires) (λ a r f k. search rules)
