use Rattle.std.proofs.Common.{◌≡◌, ◌-◌, map, count_by}
use Rattle.std.specs.List.{range_with_len}
use Rattle.aeth_document.specs.{Walks.walked, declared.walk.Walk.TheVariants.At}
use Rattle.aeth_app.specs.{App.is_end, Demands.above, Limits.max_core_connections}
use Rattle.aeth_app.proofs.demands.core_too_busy.Given as goal

abbrev pub invariant-loop-core : goal.invariant-loop-core
invariant-loop-core l =
    walked l.walk (map (λ core. above max_core_connections
    (count_by (is_end (record { 0 = core })) l.connections))
    (range_with_len l.core (l.cores - l.core)))
    ≡ walked (At 0) (map (λ core. above max_core_connections
    (count_by (is_end (record { 0 = core })) l.connections)) (range_with_len 0 l.cores))
