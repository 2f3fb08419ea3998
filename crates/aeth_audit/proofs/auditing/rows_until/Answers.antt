use Rattle.std.proofs.Common.{◌∙◌, List, ap, subst, sym, rules, filter, nat_lt}
use Rattle.std.proofs.lemmas.List.Sorted.{IsPartitionPoint-from_clause, IsPartitionedBy-ltb}
use Rattle.aeth_text.specs.Order.{Rises}
use Rattle.aeth_audit.specs.{LinkLog.is_later, declared.row.LinkRow.LinkRow}
use Rattle.aeth_audit.proofs.SearchLemmas.{before-end, cycles-rise, rises-take}
use Rattle.aeth_audit.proofs.auditing.rows_until.Goals as goal

-- Those before the end are the first ones.
pub returns-clause-until : goal.returns-clause-until
returns-clause-until c =
    let rows = c.rows-rows.result.now in
    let cycles = c.args.cycles in
    let rises = subst (Rises is_later) (sym c.rows-rows.ensures) c.requires in
    let point = IsPartitionPoint-from_clause (λ (row : LinkRow). nat_lt row.cycle cycles) _ _
    c.partition_point.ensures.partitioned
    (IsPartitionedBy-ltb (λ (row : LinkRow). row.cycle) rows cycles (cycles-rise rows rises))
    (λ a r f k. search rules) in
    sym (before-end rows cycles c.partition_point.result c.partition_point.ensures.bound point)
    ∙ ap (λ (all : List LinkRow). filter (λ row. nat_lt row.cycle cycles) all) c.rows-rows.ensures

-- So they rise.
pub returns-clause-rises : goal.returns-clause-rises
returns-clause-rises c =
    rises-take c.partition_point.result c.rows-rows.result.now
    (subst (Rises is_later) (sym c.rows-rows.ensures) c.requires)
