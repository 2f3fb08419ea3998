use Rattle.std.proofs.Common.{rules, nat_le}
use Rattle.std.proofs.lemmas.List.Sorted.{IsPartitionPoint-from_clause, IsPartitionedBy-leb}
use Rattle.aeth_router.{specs.declared.router_row.RouterRow.RouterRow, proofs.RowOrder.own-first}
use Rattle.aeth_router.proofs.row_order.rows_up_to.Goals as goal

-- Those up to the last of no router behind it.
pub returns : goal.returns
returns c =
    let rows = c.args.rows.now in
    own-first c.args.router rows c.partition_point.result c.requires.least c.partition_point.ensures.bound
    (IsPartitionPoint-from_clause (λ (row : RouterRow). nat_le row.router.0 c.args.router.0) _ _
    c.partition_point.ensures.partitioned
    (IsPartitionedBy-leb (λ (row : RouterRow). row.router.0) rows c.args.router.0 c.requires.order)
    (λ a r f k. search rules))
