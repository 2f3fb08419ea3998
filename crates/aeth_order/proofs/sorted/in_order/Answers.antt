use Rattle.std.proofs.Common.{rules}
use Rattle.std.proofs.lemmas.List.Sorted.{IsStrictWeakOrder-flip, answers_always, ranks_by}
use Rattle.std.specs.Ordering.{is_lt}
use Rattle.aeth_order.specs.Order.{unit_order}
use Rattle.aeth_order.proofs.{SortedLemmas.falls-sorted, TurnLemmas.unit_total}
use Rattle.aeth_order.proofs.sorted.in_order.Goals as goal

-- What is sorted by their comparison turned round falls.
pub returns-clause-falls : goal.returns-clause-falls
returns-clause-falls c =
    falls-sorted _ (c.in_ok-sort_by.ensures.sorted (λ a b. is_lt (unit_order b a))
    (IsStrictWeakOrder-flip (λ a b. is_lt (unit_order a b)) (ranks_by unit_total (λ a. a)))
    (answers_always _ _ _ (λ f a r g h. search rules)))
