-- Events with their cycles, in two lists.
use Rattle.std.proofs.Common.{◌≡◌, ◌++◌, ◌∙◌, ℕ, List, [], ◌∷◌, ap, arith, length, map, refl, sym}
use Rattle.std.proofs.lemmas.{Simd.map-map, Slice.Zip.firsts-zip, Slice.Zip.seconds-zip}
use Rattle.std.specs.List.{zip}
use Rattle.aeth_components.specs.declared.event.Event.{Event}
use Rattle.aeth_schedule.specs.declared.timed.Timed.{Timed}
use Rattle.aeth_scheduling.specs.Beside.{timed_beside}

-- One more.
pub beside-more : (events : List Event) (cycles : List ℕ) (event : Event) (cycle : ℕ)
    → length events ≡ length cycles
    → timed_beside (events ++ event ∷ []) (cycles ++ cycle ∷ [])
    ≡ timed_beside events cycles ++ record { cycle = cycle; event = event } ∷ []
beside-more [] [] event cycle same = refl
beside-more [] (other ∷ cycles) event cycle same = absurd (omega (arith, same))
beside-more (one ∷ events) [] event cycle same = absurd (omega (arith, same))
beside-more (one ∷ events) (other ∷ cycles) event cycle same =
    ap (λ (rest : List Timed). record { cycle = other; event = one } ∷ rest)
    (beside-more events cycles event cycle (omega (arith, same)))

-- The events, and the cycles.
abbrev beside : ℕ × Event → Timed
beside pair = record { cycle = pair.0; event = pair.1 }

pub events-beside : (events : List Event) (cycles : List ℕ) → length events ≡ length cycles
    → events ≡ map (λ one. one.event) (timed_beside events cycles)
events-beside events cycles same =
    sym (seconds-zip cycles events same)
    ∙ sym (map-map (λ (one : Timed). one.event) beside (zip cycles events))

pub cycles-beside : (events : List Event) (cycles : List ℕ) → length events ≡ length cycles
    → cycles ≡ map (λ one. one.cycle) (timed_beside events cycles)
cycles-beside events cycles same =
    sym (firsts-zip cycles events same)
    ∙ sym (map-map (λ (one : Timed). one.cycle) beside (zip cycles events))
