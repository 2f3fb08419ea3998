-- Events with their cycles, in two lists.
-- This project's own.
use Rattle.std.{proofs.Common.ℕ, proofs.Common.List, proofs.Common.map, specs.List.zip}
use Rattle.aeth_components.specs.declared.event.Event.{Event}
use Rattle.aeth_schedule.specs.declared.timed.Timed.{Timed}

-- Events, each with the cycle at its place.
abbrev pub timed_beside : List Event → List ℕ → List Timed
timed_beside events cycles =
    map (λ one. record { cycle = one.0; event = one.1 }) (zip cycles events)
