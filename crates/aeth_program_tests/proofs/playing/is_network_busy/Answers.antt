use Rattle.std.proofs.Common.{◌∙◌, ◌+◌, ◌%◌, ap, length}
use Rattle.std.proofs.lemmas.List.FromFn.{length-map-range_with_len}
use Rattle.aeth_program_tests.proofs.playing.is_network_busy.Goals as goal

-- The order has a number for each component.
pub is_busy_from-requires : goal.is_busy_from-requires
is_busy_from-requires c =
    let count = c.parts.result in
    ap length c.in_ok-order.ensures
    ∙ length-map-range_with_len (λ place. (0 + place) % count) 0 count
    ∙ c.parts.ensures.count
