use Rattle.std.proofs.Common.{List, arith, refl, subst, take_all}
use Rattle.std.specs.List.Sorted.{IsNonDecreasingBy}
use Rattle.aeth_router.specs.declared.router_row.RouterRow.{RouterRow}
use Rattle.aeth_router.proofs.RowOrder.{order-more, same-place}
use Rattle.aeth_router.proofs.row_order.are_by_router.Goals as goal

-- One row more is in order.
pub loop-row-preserved : goal.loop-row-preserved
loop-row-preserved c =
    let rows = c.args.rows.now in
    let k = c.loop-row.row-index in
    record {
      order = order-more rows k c.loop-row.last _ c.loop-row-test.true c.loop-row.invariant.order
          c.loop-row.invariant.last c.if-row-last.false;
      first = λ none. absurd (omega arith);
      last = λ d some. same-place rows k d _ c.loop-row-test.true;
    }

-- All are.
pub returns : goal.returns
returns c = (
  λ _. subst (λ (list : List RouterRow). IsNonDecreasingBy (λ row. row.router.0) list)
      (take_all c.loop-row.row-index c.args.rows.now c.loop-row-test.false) c.loop-row.invariant.order,
  λ order. refl,
)
