use Rattle.std.proofs.Common.{◌+◌, ◌%◌, ◌∙◌, ap, length}
use Rattle.std.proofs.lemmas.List.FromFn.{length-map-range_with_len}
use Rattle.aeth_links.proofs.text.text_of.Goals as goal

-- The order is of all components.
pub push_cycles-requires-clause-order : goal.push_cycles-requires-clause-order
push_cycles-requires-clause-order c =
    let count = c.parts.result in
    ap length c.in_ok-order.ensures
    ∙ length-map-range_with_len (λ place. (0 + place) % count) 0 count
    ∙ c.parts.ensures.count
