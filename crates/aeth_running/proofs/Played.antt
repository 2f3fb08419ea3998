-- A network behind some cycles: what never changes of it, and what a cycle adds beside its components.
use Rattle.std.proofs.Common.{◌≡◌, ◌∙◌, ℕ, zero, suc, ◌+◌, ◌*◌, [], ◌++◌, length, map, refl, ap}
use Rattle.std.proofs.Common.{arith, replicate}
use Rattle.std.specs.List.{slice_index_or}
use Rattle.aeth_trace.specs.Channels.{channel_number}
use Rattle.aeth_components.specs.declared.channel_state.ChannelState.{ChannelState}
use Rattle.aeth_accepted.specs.Inputs.{Inputs}
use Rattle.aeth_schedule.specs.declared.session_start.SessionStart.{SessionStart}
use Rattle.aeth_running.specs.{FirstLog.first_log, Network.NetworkState, Network.first_network}
use Rattle.aeth_running.specs.{Network.session_starts_in, Network.outside_in, Network.played}
use Rattle.aeth_running.specs.{Network.stepped, Network.untils_in, Routing.Routing}
use Rattle.aeth_stimuli.specs.{Loaded.no_channel_state, Stimuli.stimuli_of}

-- One cycle more.
pub played-next : (all : NetworkState) (t : ℕ) → played (t + 1) all ≡ stepped (played t all)
unfolding played
played-next all t = let next : t + 1 ≡ suc t = omega arith in ap (λ n. played n all) next

-- A cycle keeps what a network is given and its first log, and is counted.
stepped-stimuli : (all : NetworkState) → (stepped all).stimuli ≡ all.stimuli
unfolding stepped
stepped-stimuli all = refl

pub stepped-routing : (all : NetworkState) → (stepped all).routing ≡ all.routing
unfolding stepped
stepped-routing all = refl

pub stepped-log : (all : NetworkState) → (stepped all).log ≡ all.log
unfolding stepped
stepped-log all = refl

pub stepped-time : (all : NetworkState) → (stepped all).time ≡ all.time + 1
unfolding stepped
stepped-time all = refl

module _ (inputs : Inputs) (routing : Routing) where
  -- The network behind t cycles.
  abbrev pub network_at : ℕ → NetworkState
  network_at t = played t (first_network inputs routing)

  -- What it is given stays.
  pub played-stimuli : (t : ℕ) → (played t (first_network inputs routing)).stimuli ≡ stimuli_of inputs
  unfolding played first_network
  played-stimuli zero = refl
  played-stimuli (suc t) = stepped-stimuli (network_at t) ∙ played-stimuli t

  -- So does by what its routers send on.
  pub played-routing : (t : ℕ) → (played t (first_network inputs routing)).routing ≡ routing
  unfolding played first_network
  played-routing zero = refl
  played-routing (suc t) = stepped-routing (network_at t) ∙ played-routing t

  -- So does its first log.
  pub played-log : (t : ℕ) → (played t (first_network inputs routing)).log ≡ first_log inputs
  unfolding played first_network
  played-log zero = refl
  played-log (suc t) = stepped-log (network_at t) ∙ played-log t

  -- It has done as many cycles.
  pub played-time : (t : ℕ) → (played t (first_network inputs routing)).time ≡ t
  unfolding played first_network
  played-time zero = refl
  played-time (suc t) =
      let before = played-time t in
      stepped-time (network_at t) ∙ omega (arith, before)

  -- What a cycle adds beside the components.
  stepped-untils : (all : NetworkState)
      → (stepped all).untils ≡ untils_in all.stimuli all.time all.untils
  unfolding stepped
  stepped-untils all = refl

  stepped-outside : (all : NetworkState) → (stepped all).outside
      ≡ outside_in all.stimuli all.time (untils_in all.stimuli all.time all.untils) all.outside
  unfolding stepped
  stepped-outside all = refl

  -- How channels stand in a network where sessions go.
  abbrev stood_in : NetworkState → SessionStart → ChannelState
  stood_in all session_start =
      slice_index_or all.components.channel_states (channel_number session_start.channel)
      no_channel_state

  stepped-replaced : (all : NetworkState) → (stepped all).replaced
      ≡ all.replaced ++ map (stood_in all) (session_starts_in all.stimuli all.time)
  unfolding stepped
  stepped-replaced all = refl

  -- Until when channels accept words, behind one cycle more.
  pub untils-next : (t : ℕ) → (played (t + 1) (first_network inputs routing)).untils
      ≡ untils_in (stimuli_of inputs) t (played t (first_network inputs routing)).untils
  untils-next t =
      let all = network_at t in
      ap (λ (net : NetworkState). net.untils) (played-next (first_network inputs routing) t)
      ∙ stepped-untils all
      ∙ (λ q. untils_in (played-stimuli t q) (played-time t q) all.untils)

  -- The words outside of all sessions.
  pub outside-next : (t : ℕ) → (played (t + 1) (first_network inputs routing)).outside
      ≡ outside_in (stimuli_of inputs) t
      (untils_in (stimuli_of inputs) t (played t (first_network inputs routing)).untils)
      (played t (first_network inputs routing)).outside
  outside-next t =
      let all = network_at t in
      ap (λ (net : NetworkState). net.outside) (played-next (first_network inputs routing) t)
      ∙ stepped-outside all
      ∙ (λ q. outside_in (played-stimuli t q) (played-time t q)
      (untils_in (played-stimuli t q) (played-time t q) all.untils) all.outside)

  -- How channels stood before sessions went.
  pub replaced-next : (t : ℕ) → (played (t + 1) (first_network inputs routing)).replaced
      ≡ (played t (first_network inputs routing)).replaced
      ++ map (λ session_start. slice_index_or
      (played t (first_network inputs routing)).components.channel_states
      (channel_number session_start.channel) no_channel_state)
      (session_starts_in (stimuli_of inputs) t)
  replaced-next t =
      let all = network_at t in
      ap (λ (net : NetworkState). net.replaced) (played-next (first_network inputs routing) t)
      ∙ stepped-replaced all
      ∙ (λ q. all.replaced
      ++ map (stood_in all) (session_starts_in (played-stimuli t q) (played-time t q)))

-- Before the first cycle no channel accepts words.
pub untils-first : (inputs : Inputs) (routing : Routing) → (played 0 (first_network inputs routing)).untils
    ≡ replicate (2 * length inputs.app.connections) 0
unfolding played first_network
untils-first inputs routing = refl

-- No word is outside.
pub outside-first : (inputs : Inputs) (routing : Routing) → (played 0 (first_network inputs routing)).outside
    ≡ replicate (2 * length inputs.app.connections) 0
unfolding played first_network
outside-first inputs routing = refl

-- No session has gone.
pub replaced-first : (inputs : Inputs) (routing : Routing) → (played 0 (first_network inputs routing)).replaced ≡ []
unfolding played first_network
replaced-first inputs routing = refl
