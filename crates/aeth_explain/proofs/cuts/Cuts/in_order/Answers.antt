use Rattle.std.proofs.Common.{rules}
use Rattle.std.proofs.lemmas.{Cmp.lists_total, List.Sorted.answers_always, List.Sorted.ranks_by}
use Rattle.std.specs.{Cmp.nat_cmp_total, Cmp.on_total, Ordering.is_lt}
use Rattle.aeth_base.specs.declared.ids.LinkId.{LinkId}
use Rattle.aeth_explain.specs.Order.{dictionary}
use Rattle.aeth_explain.proofs.cuts.Cuts.in_order.Goals as goal

-- What is sorted by the comparison is in order.
pub returns-clause-order : goal.returns-clause-order
returns-clause-order c =
    c.sort_unstable_by.ensures.sorted (λ a b. is_lt (dictionary a b))
    (ranks_by (lists_total (on_total (λ (link : LinkId). link.0) nat_cmp_total)) (λ a. a))
    (answers_always _ _ _ (λ f a r g h. search rules))
