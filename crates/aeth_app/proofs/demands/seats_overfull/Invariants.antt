use Rattle.std.proofs.Common.{◌≡◌, ◌-◌, map, count_by}
use Rattle.std.specs.List.{range_with_len}
use Rattle.aeth_document.specs.{Walks.walked, declared.walk.Walk.TheVariants.At}
use Rattle.aeth_app.specs.{App.is_fixed_to, Demands.above, Limits.seats_per_ni}
use Rattle.aeth_app.proofs.demands.seats_overfull.Given as goal

abbrev pub invariant-loop-ni : goal.invariant-loop-ni
invariant-loop-ni l =
    walked l.walk (map (λ ni. above seats_per_ni (count_by (is_fixed_to ni) l.cores))
    (range_with_len l.ni (l.nis - l.ni)))
    ≡ walked (At 0) (map (λ ni. above seats_per_ni (count_by (is_fixed_to ni) l.cores))
    (range_with_len 0 l.nis))
