use Rattle.std.proofs.Common.{◌∙◌, ◌+◌, ◌%◌, length, ap}
use Rattle.std.proofs.lemmas.List.FromFn.{length-map-range_with_len}
use Rattle.aeth_machine.proofs.playing.played.Goals as goal

-- The order has a number for each component.
pub play-requires : goal.play-requires
play-requires g c =
    let count = c.components.result in
    ap length c.in_ok-order.ensures
    ∙ length-map-range_with_len (λ place. (c.args.turn + place) % count) 0 count
    ∙ c.components.ensures.count
