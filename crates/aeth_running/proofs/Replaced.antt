-- How channels stood before each session went.
use Rattle.std.proofs.Common.{◌≡◌, ◌∙◌, ℕ, zero, suc, ◌+◌, List, [], ◌∷◌, ◌++◌, drop, filter, map}
use Rattle.std.proofs.Common.{sym, ap, arith, ◌==◌, nat_lt, eqb-true}
use Rattle.std.proofs.lemmas.List.{map-append}
use Rattle.std.specs.List.{slice_index_or, zip, Sorted.IsNonDecreasingBy}
use Rattle.aeth_trace.specs.Channels.{channel_number}
use Rattle.aeth_components.specs.declared.channel_state.ChannelState.{ChannelState}
use Rattle.aeth_accepted.specs.Inputs.{Inputs}
use Rattle.aeth_schedule.specs.SessionStarts.{session_starts_of}
use Rattle.aeth_schedule.specs.declared.session_start.SessionStart.{SessionStart}
use Rattle.aeth_stimuli.{specs.Stimuli.session_starts_over, specs.Stimuli.is_over}
use Rattle.aeth_stimuli.{specs.Loaded.no_channel_state, proofs.WordWindows.below-none}
use Rattle.aeth_running.specs.{Network.first_network, Network.played, Logged.last_channel_states}
use Rattle.aeth_running.specs.{Routing.Routing}
use Rattle.aeth_running.proofs.Accepting.{shown-beside}
use Rattle.aeth_running.proofs.InOrder.{below, below-next, map-kept}
use Rattle.aeth_running.proofs.Played.{played-stimuli, replaced-first, replaced-next}
use Rattle.aeth_base.proofs.Filters.{filter-again}

-- When a session goes.
abbrev pub go_of : SessionStart → ℕ
go_of session_start = session_start.channel_state.go

-- All sessions go within the run.
pub all-within : (inputs : Inputs)
    → filter (λ session_start. nat_lt session_start.channel_state.go inputs.cycles)
    (session_starts_of inputs) ≡ session_starts_of inputs
unfolding session_starts_of
all-within inputs =
    filter-again
    (λ (session_start : SessionStart). nat_lt session_start.channel_state.go inputs.cycles) _

module _ (inputs : Inputs) (routing : Routing) where
  -- How the channel of a session stood before it went.
  abbrev pub channel_state_before : SessionStart → ChannelState
  channel_state_before session_start =
      slice_index_or
      (played session_start.channel_state.go
      (first_network inputs routing)).components.channel_states
      (channel_number session_start.channel) no_channel_state

  module _ (ordered : IsNonDecreasingBy (λ session_start. session_start.channel_state.go)
      (session_starts_of inputs)) where
    -- Those of the sessions that went before a cycle.
    replaced-before : (t : ℕ) → (played t (first_network inputs routing)).replaced
        ≡ map channel_state_before (filter (below go_of t) (session_starts_of inputs))
    replaced-before zero =
        replaced-first inputs routing
        ∙ ap (λ (list : List SessionStart). map channel_state_before list)
        (sym (below-none go_of 0 (session_starts_of inputs) (λ k d within. omega arith)))
    replaced-before (suc t) =
        let next : suc t ≡ t + 1 = omega arith in
        let all = session_starts_of inputs in
        let here = filter (λ (session_start : SessionStart). session_start.channel_state.go == t)
        all in
        let stood = λ (session_start : SessionStart). slice_index_or
        (played t (first_network inputs routing)).components.channel_states
        (channel_number session_start.channel) no_channel_state in
        let same : map stood here ≡ map channel_state_before here =
        map-kept stood channel_state_before
        (λ (session_start : SessionStart). session_start.channel_state.go == t) all
        (λ session_start goes.
        let at : t ≡ session_start.channel_state.go =
        sym (eqb-true session_start.channel_state.go t goes) in
        ap (λ n. slice_index_or (played n (first_network inputs routing)).components.channel_states
        (channel_number session_start.channel) no_channel_state) at) in
        ap (λ n. (played n (first_network inputs routing)).replaced) next
        ∙ replaced-next inputs routing t
        ∙ (λ q. replaced-before t q ++ same q)
        ∙ sym (map-append channel_state_before (filter (below go_of t) all) here)
        ∙ ap (λ (list : List SessionStart). map channel_state_before list)
        (sym (below-next go_of t all ordered))
        ∙ ap (λ n. map channel_state_before (filter (below go_of n) all)) (sym next)

    -- At the end of the run, those of all sessions.
    pub replaced-all : (played inputs.cycles (first_network inputs routing)).replaced
        ≡ map channel_state_before (session_starts_of inputs)
    replaced-all =
        replaced-before inputs.cycles
        ∙ ap (λ (list : List SessionStart). map channel_state_before list) (all-within inputs)

    -- So the channel of a number stood at the end of each of its sessions as before the next one.
    pub last-channel_states-are : (number : ℕ)
        → last_channel_states (played inputs.cycles (first_network inputs routing)) number
        ≡ drop 1 (map channel_state_before (session_starts_over number (session_starts_of inputs)))
        ++ slice_index_or
        (played inputs.cycles (first_network inputs routing)).components.channel_states number
        no_channel_state
        ∷ []
    last-channel_states-are number =
        let all = played inputs.cycles (first_network inputs routing) in
        let final = slice_index_or all.components.channel_states number no_channel_state in
        (λ q. drop 1 (map (λ gone. gone.1) (filter (λ gone. is_over number gone.0)
        (zip (played-stimuli inputs routing inputs.cycles q).schedule.session_starts
        (replaced-all q)))) ++ final ∷ [])
        ∙ ap (λ (list : List ChannelState). drop 1 list ++ final ∷ [])
        (shown-beside channel_state_before (is_over number) (session_starts_of inputs))
