use Rattle.aeth_alloc.proofs.PriceLemmas.{HasOneAnswer-cost, price-table}
use Rattle.aeth_alloc.proofs.prices.priced.Goals as goal

-- The function gives one cost for each delay and number of used slots.
pub new-requires-clause-answers : goal.new-requires-clause-answers
new-requires-clause-answers g c d u some most few =
    HasOneAnswer-cost c.args.price d u few (λ answer gives.
    c.requires.answers d u answer some most few gives)

-- The table is that of the price.
pub returns : goal.returns
returns g c =
    price-table c.args.price c.new.result c.new.ensures.costs (λ d u some most few.
    c.requires.answers d u _ some most few (c.new.ensures.answers d u some most few))
