use Rattle.std.proofs.Common.{◌∙◌, List, ℕ, ap, subst, IfOk}
use Rattle.aeth_alloc.specs.{Prices.prices_of, Refusals.RefusesExactly}
use Rattle.aeth_alloc.proofs.allocation.allocate.Goals as goal

-- Units are refused by the table of the application's price.
pub returns-clause-refused : goal.returns-clause-refused
returns-clause-refused c =
    subst (λ (prices : List ℕ). IfOk c.allocate_with.result (λ outcome. RefusesExactly (record {
      chip = c.args.chip.now;
      app = c.args.app.now;
      prices = prices;
    }) c.args.groups.now outcome.refused))
    (c.priced-cost.ensures ∙ ap prices_of c.price-price.ensures) c.allocate_with.ensures.refused
