use Rattle.std.proofs.{Common.rules, lemmas.List.Sorted.answers_always}
use Rattle.std.specs.List.Sorted.{IsPermutation}
use Rattle.aeth_plan.proofs.GrantOrder.{key_of, rises_by_key}
use Rattle.aeth_plan.proofs.making.in_order.Goals as goal

-- What is sorted by keys rises.
pub returns-clause-rises : goal.returns-clause-rises
returns-clause-rises c =
    let same : IsPermutation c.args.grants.now c.sort_by_key.new.self.items = search rules in
    rises_by_key _ _ c.requires same (c.in_ok-sort_by_key.ensures.sorted key_of
    (answers_always _ _ _ (λ f a r g h. search rules)))
