-- Networks before their first cycle, whose log is made last.
use Rattle.std.proofs.Common.{◌≡◌, ◌≤◌, ◌<◌, ◌*◌, ◌∙◌, ap, arith, length, refl}
use Rattle.std.proofs.lemmas.List.Elements.{All-weaker}
use Rattle.std.specs.List.{All}
use Rattle.aeth_app.specs.Limits.{max_connections}
use Rattle.aeth_trace.specs.Channels.{channel_number}
use Rattle.aeth_components.specs.Components.{wirings_of}
use Rattle.aeth_accepted.specs.Inputs.{AreAccepted, Inputs}
use Rattle.aeth_schedule.specs.{SessionStarts.session_starts_of, Values.values_of}
use Rattle.aeth_schedule.specs.{declared.session_start.SessionStart.SessionStart}
use Rattle.aeth_running.specs.{Network.NetworkState, Network.first_network, Routing.Routing}
use Rattle.aeth_stimuli.specs.Loaded.{loaded_components}
use Rattle.aeth_stimuli.specs.Stimuli.{AreStimuli, Stimuli, stimuli_of}
use Rattle.aeth_network.specs.{First.IsFirstState, Networks.network_of, Records.AreOffered}
use Rattle.aeth_network.specs.{Runs.IsNetworkOf, Unlogged.logged_with, Unlogged.no_log}
use Rattle.aeth_network.specs.{declared.state.State.State}
use Rattle.aeth_network.proofs.{FirstNetwork.first-from, Playing.played-none}

-- The network of inputs, part by part and but for its log, with the log of these inputs.
pub first-logged : (inputs : Inputs) (stimuli : Stimuli) (routing : Routing) (state : State)
    → stimuli ≡ stimuli_of inputs → IsFirstState inputs routing state
    → logged_with inputs (network_of stimuli routing state no_log 0) ≡ first_network inputs routing
first-logged inputs stimuli routing state given first =
    first-from inputs stimuli routing state _ given first (rw given refl)

-- Before its first cycle a network is the first, and its sessions are those of its inputs.
module _ (inputs : Inputs) (all : NetworkState) (of : IsNetworkOf inputs all) (none : all.time ≡ 0) where
  pub is-first : all ≡ first_network inputs all.routing
  is-first = of.is ∙ played-none all.time (first_network inputs all.routing) none

  pub starts-first : all.stimuli.schedule.session_starts ≡ session_starts_of inputs
  unfolding first_network
  starts-first = ap (λ (now : NetworkState). now.stimuli.schedule.session_starts) is-first

-- The words of accepted inputs are such as a log is made of, and their sessions go over known channels.
module _ (inputs : Inputs) (accepted : AreAccepted inputs) where
  pub words-offered : AreOffered inputs.words
  words-offered = record { few = accepted.words.few; cycles = accepted.words.cycles }

  pub starts-known : AreStimuli (2 * length inputs.app.connections)
      (length (values_of inputs.words (length inputs.app.connections)))
      (wirings_of (loaded_components inputs)) (stimuli_of inputs)
      → All (λ one. channel_number one.channel < 2 * max_connections) (session_starts_of inputs)
  starts-known stimuli =
      let most = accepted.design.app_is.connections in
      All-weaker (λ (one : SessionStart). channel_number one.channel < 2 * length inputs.app.connections)
      (λ (one : SessionStart). channel_number one.channel < 2 * max_connections)
      (λ one known. omega arith) (session_starts_of inputs) stimuli.session_starts
