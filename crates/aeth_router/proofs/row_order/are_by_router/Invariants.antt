use Rattle.std.proofs.Common.{◌≡◌, ◌<◌, ◌-◌, get_or, take}
use Rattle.std.specs.List.Sorted.{IsNonDecreasingBy}
use Rattle.aeth_router.specs.declared.router_row.RouterRow.{RouterRow}
use Rattle.aeth_router.proofs.row_order.are_by_router.Given as goal

-- The rows so far are in order, up to the router of the last of them.
abbrev pub invariant-loop-row : goal.invariant-loop-row
invariant-loop-row l = record {
  order : IsNonDecreasingBy (λ (row : RouterRow). row.router.0) (take l.row-index l.rows);
  first : l.row-index ≡ 0 → l.last ≡ 0;
  last : (d : RouterRow) → 0 < l.row-index → (get_or l.rows (l.row-index - 1) d).router.0 ≡ l.last;
}
