-- The flits that a network has counted are those of the run.
use Rattle.std.proofs.Common.{◌≡◌, ◌<◌, ◌∙◌, ℕ, ◌==◌, length, map, not, arith, count_by}
use Rattle.std.proofs.lemmas.{List.FromFn.fill_by_all, Option.slice_get-get_or}
use Rattle.std.specs.List.{range_with_len, slice_index_or}
use Rattle.aeth_report.specs.{Carries.carries as carries_in, RunLog.flits_over}
use Rattle.aeth_invariant.specs.Carries.{carries}
use Rattle.aeth_components.specs.Components.{ComponentsState}
use Rattle.aeth_accepted.specs.Inputs.{Inputs, run_of}
use Rattle.aeth_routed_sessions.specs.RoutedSessions.{routed_sessions_of}
use Rattle.aeth_refinement.specs.Logging.{CountsFlits}

-- Components that have counted the flits of the routed sessions have counted those of the run.
pub flits-are : (inputs : Inputs) (all : ComponentsState)
    → ((l t : ℕ) → l < length inputs.chip.links
    → carries (routed_sessions_of inputs) l t ≡ carries_in (run_of inputs) l t)
    → length all.flits ≡ length inputs.chip.links
    → CountsFlits (routed_sessions_of inputs) inputs.cycles all
    → all.flits ≡ map (flits_over (run_of inputs)) (range_with_len 0 (length inputs.chip.links))
flits-are inputs all carried links counts =
    fill_by_all (flits_over (run_of inputs)) all.flits (length inputs.chip.links) 0 links
    (λ l within.
    counts l (slice_index_or all.flits l 0) (slice_get-get_or all.flits l 0 (omega arith))
    ∙ (λ q. count_by (λ u. not (length (carried l u within q) == 0))
    (range_with_len 0 inputs.cycles)))
