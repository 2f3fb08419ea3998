-- In a cycle on which no switch falls no rows enter tables, so none do in a still cycle.
use Rattle.std.proofs.Common.{◌≡◌, ◌<◌, ℕ, All, Contains, [], refl, subst, ◌==◌, eqb-true}
use Rattle.aeth_tables.proofs.ListLaws.{all_has}
use Rattle.aeth_report.specs.Sessions.{Switch}
use Rattle.aeth_accepted.specs.Inputs.{Inputs, run_of}
use Rattle.aeth_schedule.specs.{Switching.later_switches, Windows.IsInWindow}
use Rattle.aeth_running.proofs.StillRows.{no-switches, none-kept}
use Rattle.aeth_running.proofs.Played.{played-stimuli, played-time}
use Rattle.aeth_running.specs.{Idle.FallsOn, Network.first_network, Network.played}
use Rattle.aeth_running.specs.{Routing.ByHeaders, Routing.ByTables, Routing.Entering}
use Rattle.aeth_running.specs.{Routing.IsRoutingFor, Routing.IsSwitched, Routing.Routing}
use Rattle.aeth_running.specs.{Routing.enterings_in, Still.IsStill}
use Rattle.aeth_stimuli.specs.Stimuli.{Stimuli, stimuli_of}

pub no-enterings : (inputs : Inputs) (routing : Routing) → IsRoutingFor inputs routing → (t : ℕ)
    → ((switch : Switch) → Contains (later_switches inputs.switches) switch
    → FallsOn (run_of inputs).spans switch t → ⊥)
    → enterings_in routing t ≡ []
no-enterings inputs ByHeaders routes t none = refl
no-enterings inputs (ByTables first later) routes t none =
    none-kept (λ (entering : Entering). entering.cycle == t) later (λ entering has now.
    let one = all_has (IsSwitched inputs (ByTables first later)) later entering
    (routes refl).switched has in
    none one.switch one.is (subst (FallsOn (run_of inputs).spans one.switch)
    (eqb-true entering.cycle t now) one.falls))

pub still-unentered : (inputs : Inputs) (routing : Routing) → IsRoutingFor inputs routing → (t : ℕ)
    → t < inputs.cycles → IsStill (played t (first_network inputs routing))
    → enterings_in routing t ≡ []
still-unentered inputs routing routes t early still =
    let all = played t (first_network inputs routing) in
    no-enterings inputs routing routes t (no-switches inputs t early
    (subst (λ (n : ℕ). All (λ window. IsInWindow window n → ⊥)
    (stimuli_of inputs).schedule.windows) (played-time inputs routing t)
    (subst (λ (s : Stimuli). All (λ window. IsInWindow window all.time → ⊥) s.schedule.windows)
    (played-stimuli inputs routing t) still.unswitched)))
