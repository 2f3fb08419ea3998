use Rattle.std.proofs.Common.{◌≡◌, ◌≤◌, length, refl, subst, sym, vec_capacity}
use Rattle.aeth_running.specs.Network.{NetworkState}
use Rattle.aeth_schedule.specs.SessionStarts.{session_starts_of}
use Rattle.aeth_network.specs.{Cursors.routing_with, Cursors.stimuli_with, Networks.IsNetwork}
use Rattle.aeth_network.specs.{Networks.network_of, Runs.HasInputs}
use Rattle.aeth_network.proofs.FirstLogs.{is-first, starts-first}
use Rattle.aeth_network.proofs.FirstNetwork.{AreCursors-first, IsNetwork-first}
use Rattle.aeth_network.proofs.beginning.begun.Goals as goal

-- What holds of networks holds of it.
pub invariant_of-result : goal.invariant_of-result
invariant_of-result c =
    let inside = c.network.inside in
    let routing = routing_with inside.given in
    let all = network_of (stimuli_with inside.given) routing inside.state c.args.log 0 in
    let capacity = vec_capacity inside.state.replaced in
    let has : HasInputs all =
    subst (λ (network : NetworkState). HasInputs (record network { log = c.args.log }))
    (sym c.network.view_is) c.requires in
    let of = has.of in
    let room = c.network.invariant in
    let starts = starts-first has.inputs all of refl in
    let enough : length (session_starts_of has.inputs) ≤ capacity =
    subst (λ starts. length starts ≤ capacity) starts room in (
      subst (IsNetwork capacity) (sym (is-first has.inputs all of refl))
          (IsNetwork-first has.inputs of.accepted routing of.routed
          (c.stimuli_are_stimuli.ensures has.inputs of.accepted) capacity enough),
      AreCursors-first _ _ _ refl refl refl refl refl refl refl refl,
      has,
    )

-- It is the same but for its log.
pub returns : goal.returns
returns c = rw (sym c.network.view_is) refl
