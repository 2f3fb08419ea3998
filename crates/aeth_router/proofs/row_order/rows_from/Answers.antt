use Rattle.std.proofs.Common.{All, List, rules, subst, sym, ◌≤◌, nat_lt}
use Rattle.std.proofs.lemmas.List.Sorted.{IsNonDecreasingBy-drop, IsPartitionPoint-from_clause}
use Rattle.std.proofs.lemmas.List.Sorted.{IsPartitionedBy-ltb}
use Rattle.std.specs.List.Sorted.{IsNonDecreasingBy}
use Rattle.aeth_router.specs.declared.router_row.RouterRow.{RouterRow}
use Rattle.aeth_router.proofs.RowOrder.{least-behind, own-behind, rows-behind}
use Rattle.aeth_router.proofs.row_order.rows_from.Goals as goal

-- The rows behind those whose routers come before it.
pub returns-clause-own : goal.returns-clause-own
returns-clause-own c =
    let rows = c.args.rows.now in
    let n = c.partition_point.result in
    let point = IsPartitionPoint-from_clause (λ (row : RouterRow). nat_lt row.router.0 c.args.router.0) _ _
    c.partition_point.ensures.partitioned
    (IsPartitionedBy-ltb (λ (row : RouterRow). row.router.0) rows c.args.router.0 c.requires)
    (λ a r f k. search rules) in
    rw (rows-behind rows n) (own-behind c.args.router rows n point.0)

pub returns-clause-least : goal.returns-clause-least
returns-clause-least c =
    let rows = c.args.rows.now in
    let n = c.partition_point.result in
    let point = IsPartitionPoint-from_clause (λ (row : RouterRow). nat_lt row.router.0 c.args.router.0) _ _
    c.partition_point.ensures.partitioned
    (IsPartitionedBy-ltb (λ (row : RouterRow). row.router.0) rows c.args.router.0 c.requires)
    (λ a r f k. search rules) in
    subst (λ (list : List RouterRow). All (λ row. c.args.router.0 ≤ row.router.0) list)
    (sym (rows-behind rows n)) (least-behind c.args.router rows n point.1)

pub returns-clause-order : goal.returns-clause-order
returns-clause-order c =
    let rows = c.args.rows.now in
    let n = c.partition_point.result in
    subst (λ (list : List RouterRow). IsNonDecreasingBy (λ row. row.router.0) list)
    (sym (rows-behind rows n)) (IsNonDecreasingBy-drop (λ (row : RouterRow). row.router.0) n rows c.requires)
