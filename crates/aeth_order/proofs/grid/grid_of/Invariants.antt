use Rattle.std.{proofs.Common.◌≡◌, proofs.Common.map, specs.List.range_with_len}
use Rattle.aeth_order.specs.{Grid.unit_at, Units.keys_of}
use Rattle.aeth_order.proofs.grid.grid_of.Given as goal

-- The places so far.
abbrev pub invariant-loop-place : goal.invariant-loop-place
invariant-loop-place l =
    l.grid.items ≡ map (λ p. keys_of l.app (unit_at p)) (range_with_len 0 l.place)
