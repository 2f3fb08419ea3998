use Rattle.std.proofs.Common.{◌∙◌, List, ap, arith, sym, slice_get}
use Rattle.aeth_chip.specs.{Paths.delay_in, declared.node.Link.Link}
use Rattle.aeth_book.specs.Free.{used_slots}
use Rattle.aeth_paths.{specs.Costs.price, specs.Walk.costs_of, proofs.LeastLemmas.put-within}
use Rattle.aeth_paths.proofs.least.cost_of.Goals as goal

-- The cost stands in the table.
pub returns-clause-costs : goal.returns-clause-costs
returns-clause-costs c =
    let task = c.args.task.now in
    let link = c.args.link.0 in
    let at = ap (λ (ls : List Link). slice_get ls link) c.requires.task.book
    ∙ c.link-delay.ensures.link in
    let own = c.of-cost.ensures.cost
    ∙ ap (price task.prices.now c.link-delay.result.delay) c.used.ensures.used
    ∙ ap (λ d. price task.prices.now d (used_slots task.book.now task.ask.unit link))
    (sym (ap delay_in at)) in
    put-within (costs_of task) c.args.costs.now link c.of-cost.result
    (omega (arith, c.requires.link, c.links-links.ensures, c.requires.links)) c.requires.costs own

-- It is the link's.
pub returns-clause-within : goal.returns-clause-within
returns-clause-within c =
    let task = c.args.task.now in
    let link = c.args.link.0 in
    let at = ap (λ (ls : List Link). slice_get ls link) c.requires.task.book
    ∙ c.link-delay.ensures.link in
    let own = c.of-cost.ensures.cost
    ∙ ap (price task.prices.now c.link-delay.result.delay) c.used.ensures.used
    ∙ ap (λ d. price task.prices.now d (used_slots task.book.now task.ask.unit link))
    (sym (ap delay_in at)) in
    omega (arith, own)
