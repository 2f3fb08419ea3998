-- Networks of accepted inputs in a stretch of cycles that leave them: which cycle ends it.
use Rattle.std.proofs.Common.{◌≡◌, ◌<◌, ◌∙◌, ◌+◌, ℕ, zero, suc, All, Contains, List, [], None, Some}
use Rattle.std.proofs.Common.{ap, arith, false, fold, length, refl, slice_get, subst, sym}
use Rattle.aeth_clocked.specs.Wires.{flit_on}
use Rattle.aeth_router.specs.declared.part.Part.{Part}
use Rattle.aeth_report.specs.Sessions.{Switch}
use Rattle.aeth_trace.specs.declared.words.WordRow.{WordRow}
use Rattle.aeth_components.specs.{Components.ComponentsState, Components.moment_of}
use Rattle.aeth_components.specs.{Components.wires_driven, ChannelStates.is_open, Phases.Moment}
use Rattle.aeth_components.specs.{Phases.refilled, FlitsOnWires.sends_own}
use Rattle.aeth_components.specs.{declared.event.Event.Event}
use Rattle.aeth_components.specs.{declared.channel_state.ChannelState.ChannelState}
use Rattle.aeth_accepted.specs.Inputs.{AreAccepted, Inputs, run_of}
use Rattle.aeth_accepted.proofs.SoundRuns.{AreSpans}
use Rattle.aeth_schedule.specs.{Switching.later_switches, Windows.IsInWindow}
use Rattle.aeth_stimuli.specs.{Stimuli.Stimuli, Stimuli.stimuli_of, Events.events_in}
use Rattle.aeth_running.proofs.{Played.played-routing, Played.played-stimuli, Played.played-time}
use Rattle.aeth_running.proofs.{RestingNetworks.stepped-components, RestingStates.in_turn-rests}
use Rattle.aeth_running.proofs.{StillEvents.no-events, StillSessionStarts.no-session_starts}
use Rattle.aeth_running.proofs.{StillRows.no-switches, StillRows.no-words, MuteParts.mute-silent}
use Rattle.aeth_running.proofs.{MuteParts.silent-mute, StillTables.no-enterings}
use Rattle.aeth_running.proofs.{StillTables.still-unentered}
use Rattle.aeth_running.specs.Idle.{FallsOn}
use Rattle.aeth_running.specs.Network.{NetworkState, accepted_with, first_network, gone_with}
use Rattle.aeth_running.specs.Network.{session_starts_in, offers_in, played, ready_in, state_behind}
use Rattle.aeth_running.specs.Network.{stepped, takes_in, taking_with, untils_in}
use Rattle.aeth_running.specs.Running.{IsServing}
use Rattle.aeth_running.specs.Still.{IsStill}
use Rattle.aeth_running.specs.Quiet.{IsQuiet, ready_channel_states}
use Rattle.aeth_running.specs.Routing.{IsRoutingFor, Routing, entered_with, enterings_in}

-- Where no rows enter, no session goes and no word is offered, only receivers change how they take.
ready-over : (all : NetworkState) → enterings_in all.routing all.time ≡ []
    → session_starts_in all.stimuli all.time ≡ []
    → offers_in all.stimuli all.time ≡ []
    → ready_in all ≡ record all.components {
      channel_states =
          fold taking_with all.components.channel_states (takes_in all.stimuli all.time);
    }
ready-over all unentered ungone unoffered =
    let untils = untils_in all.stimuli all.time all.untils in
    λ i. record all.components {
      parts = fold entered_with all.components.parts (unentered i);
      channel_states = fold taking_with
          (fold (accepted_with all.time untils)
          (fold gone_with all.components.channel_states (ungone i))
          (unoffered i))
          (takes_in all.stimuli all.time);
    }

-- The components once they are ready for so many cycles later.
ready-now : (all : NetworkState) → enterings_in all.routing all.time ≡ []
    → ready_in all ≡ record all.components { channel_states = ready_channel_states 0 all }
unfolding ready_channel_states
ready-now all unentered = λ i. record (ready_in all) {
  parts = fold entered_with all.components.parts (unentered i);
}

ready-later : (k : ℕ) (all : NetworkState) → ready_channel_states (suc k) all
    ≡ fold taking_with (ready_channel_states k all) (takes_in all.stimuli (all.time + suc k))
unfolding ready_channel_states
ready-later k all = refl

module _ (inputs : Inputs) (routing : Routing)
    (rests : (t : ℕ) → t < inputs.cycles → IsStill (played t (first_network inputs routing))
    → (played (t + 1) (first_network inputs routing)).components
    ≡ ready_in (played t (first_network inputs routing)))
    (unenters : (t : ℕ) → t < inputs.cycles → IsStill (played t (first_network inputs routing))
    → enterings_in routing t ≡ []) where
  abbrev at : ℕ → NetworkState
  at t = played t (first_network inputs routing)

  -- The components, once they are ready for a cycle behind still ones.
  pub ready-behind : (t k : ℕ) → t + k < inputs.cycles
      → ((j : ℕ) → j < k → IsStill (played (t + j) (first_network inputs routing)))
      → enterings_in routing (t + k) ≡ []
      → (0 < k → (session_starts_in (stimuli_of inputs) (t + k) ≡ [])
      × (offers_in (stimuli_of inputs) (t + k) ≡ []))
      → ready_in (played (t + k) (first_network inputs routing))
      ≡ record (played t (first_network inputs routing)).components {
        channel_states = ready_channel_states k (played t (first_network inputs routing));
      }
  ready-behind t zero early still unentered calm =
      let same : t + zero ≡ t = omega arith in
      ap (λ n. ready_in (at n)) same ∙ ready-now (at t)
      ((λ i. enterings_in (played-routing inputs routing t i) (played-time inputs routing t i))
      ∙ ap (enterings_in routing) (sym same) ∙ unentered)
  ready-behind t (suc k) early still unentered calm =
      let all = at t in
      let m = t + k in
      let last = still k (omega arith) in
      let next : t + suc k ≡ m + 1 = omega arith in
      let time_last = played-time inputs routing m in
      let before = ready-behind t k (omega arith) (λ j less. still j (omega arith))
      (unenters m (omega arith) last)
      (λ some. (
        (λ i. session_starts_in (sym (played-stimuli inputs routing m) i) (sym time_last i))
            ∙ last.ungone (omega arith),
        (λ i. offers_in (sym (played-stimuli inputs routing m) i) (sym time_last i)) ∙ last.unoffered,
      )) in
      let n = t + suc k in
      let now = at n in
      let components : now.components
      ≡ record all.components { channel_states = ready_channel_states k all } =
      ap (λ (c : ℕ). (at c).components) next ∙ rests m (omega arith) last ∙ before in
      let stimuli : now.stimuli ≡ all.stimuli =
      played-stimuli inputs routing n ∙ sym (played-stimuli inputs routing t) in
      let start = played-time inputs routing t in
      let end = played-time inputs routing n in
      let time : now.time ≡ all.time + suc k = omega arith in
      let (ungone, unoffered) = calm (omega arith) in
      ready-over now
      ((λ i. enterings_in (played-routing inputs routing n i) (end i)) ∙ unentered)
      ((λ i. session_starts_in (played-stimuli inputs routing n i) (end i)) ∙ ungone)
      ((λ i. offers_in (played-stimuli inputs routing n i) (end i)) ∙ unoffered)
      ∙ (λ i. record (components i) {
        channel_states =
            fold taking_with (components i).channel_states (takes_in (stimuli i) (time i));
      })
      ∙ ap (λ (channel_states : List ChannelState).
      record all.components { channel_states = channel_states })
      (sym (ready-later k all))

module _ (inputs : Inputs) (routing : Routing) (routes : IsRoutingFor inputs routing)
    (accepted : AreAccepted inputs) (spans : AreSpans inputs accepted)
    (serving : (t : ℕ) → t < inputs.cycles
    → IsServing inputs t (played t (first_network inputs routing)).components
    (ready_in (played t (first_network inputs routing))))
    (enqueues-rest : (t : ℕ) → t < inputs.cycles
    → ((l : ℕ) → flit_on (played t (first_network inputs routing)).components.wires l ≡ None)
    → ((row : WordRow) → Contains inputs.words row → row.cycle ≡ t → ⊥)
    → (number : ℕ) (channel_state : ChannelState)
    → slice_get (ready_in (played t (first_network inputs routing))).channel_states number
    ≡ Some channel_state
    → refilled (ready_in (played t (first_network inputs routing))).words t
    (ready_in (played t (first_network inputs routing))).parts channel_state
    ≡ ((ready_in (played t (first_network inputs routing))).parts, channel_state))
    (rests : (t : ℕ) → t < inputs.cycles → IsStill (played t (first_network inputs routing))
    → (played (t + 1) (first_network inputs routing)).components
    ≡ ready_in (played t (first_network inputs routing)))
    (t k : ℕ) (early : t + k < inputs.cycles)
    (empty : (l : ℕ) → flit_on (played t (first_network inputs routing)).components.wires l ≡ None)
    (still : (j : ℕ) → j < k → IsStill (played (t + j) (first_network inputs routing))) where
  abbrev all : NetworkState
  all = played t (first_network inputs routing)

  abbrev n : ℕ
  n = t + k

  abbrev now : NetworkState
  now = played (t + k) (first_network inputs routing)

  time-is : all.time + k ≡ t + k
  time-is = let start = played-time inputs routing t in omega arith

  module _ (ungone : 0 < k → session_starts_in (stimuli_of inputs) (t + k) ≡ [])
      (unoffered : offers_in (stimuli_of inputs) (t + k) ≡ [])
      (eventless : events_in (stimuli_of inputs) (t + k) ≡ [])
      (unentered : enterings_in routing (t + k) ≡ []) where
    ready-is : ready_in now ≡ record all.components { channel_states = ready_channel_states k all }
    ready-is = ready-behind inputs routing rests (still-unentered inputs routing routes) t k early still
        unentered (λ some. (ungone some, unoffered))

    -- The wires are empty before the cycle.
    empty-now : (l : ℕ) → flit_on now.components.wires l ≡ None
    empty-now l = ap (λ (one : ComponentsState). flit_on one.wires l) ready-is ∙ empty l

    enqueues : (number : ℕ) (channel_state : ChannelState)
        → slice_get (ready_in now).channel_states number ≡ Some channel_state
        → refilled (ready_in now).words n (ready_in now).parts channel_state
        ≡ ((ready_in now).parts, channel_state)
    enqueues = enqueues-rest n early empty-now (no-words inputs n early unoffered)

    -- Behind it they have what the components send that stand so.
    wires-are : (l : ℕ) → flit_on (stepped now).components.wires l
        ≡ flit_on (wires_driven (ready_in now).parts (length (ready_in now).wires) n) l
    wires-are l =
        let ready = ready_in now in
        ap (λ (one : ComponentsState). flit_on one.wires l)
        (stepped-components now
        ∙ (λ i. state_behind (events_in (played-stimuli inputs routing n i) (played-time inputs routing n i))
        (played-time inputs routing n i) ready)
        ∙ ap (λ (events : List Event). state_behind events n ready) eventless)
        ∙ ap (λ (one : Moment). flit_on (wires_driven one.parts (length ready.wires) n) l)
        (in_turn-rests (refilled ready.words n) (moment_of ready) enqueues)

    empty-ready : (l : ℕ) → flit_on (ready_in now).wires l ≡ None
    empty-ready l = empty-now l

    pub silent-where : ((number : ℕ) (part : Part) → slice_get all.components.parts number ≡ Some part
        → sends_own n part ≡ false) → (l : ℕ) → flit_on (stepped now).components.wires l ≡ None
    silent-where mute l =
        let serves = serving n early in
        let ready = ready_in now in
        let parts : ready.parts ≡ all.components.parts =
        ap (λ (one : ComponentsState). one.parts) ready-is in
        wires-are l
        ∙ mute-silent ready.parts ready.wires n serves.follows.wired serves.follows.latched empty-ready
        (λ i part at. mute i part (ap (λ (list : List Part). slice_get list i) (sym parts) ∙ at)) l

    pub mute-where : ((l : ℕ) → flit_on (stepped now).components.wires l ≡ None)
        → (number : ℕ) (part : Part) → slice_get all.components.parts number ≡ Some part
        → sends_own n part ≡ false
    mute-where silent i part at =
        let serves = serving n early in
        let ready = ready_in now in
        let parts : ready.parts ≡ all.components.parts =
        ap (λ (one : ComponentsState). one.parts) ready-is in
        silent-mute ready.parts ready.wires n serves.follows.wired
        (λ l. sym (wires-are l) ∙ silent l) i part
        (ap (λ (list : List Part). slice_get list i) parts ∙ at)

  -- A cycle that is quiet leaves the network.
  pub still-of-quiet : IsQuiet all k → IsStill now
  still-of-quiet quiet =
      let stimuli = played-stimuli inputs routing n in
      let first = played-stimuli inputs routing t in
      let time = played-time inputs routing n in
      let unswitched : All (λ window. IsInWindow window n → ⊥)
      (stimuli_of inputs).schedule.windows =
      subst (λ (s : Stimuli). All (λ window. IsInWindow window n → ⊥) s.schedule.windows) first
      (subst (λ (m : ℕ). All (λ window. IsInWindow window m → ⊥) all.stimuli.schedule.windows)
      time-is
      quiet.unswitched) in
      let none : (switch : Switch) → Contains (later_switches inputs.switches) switch
      → FallsOn (run_of inputs).spans switch n → ⊥ = no-switches inputs n early unswitched in
      let ungone : 0 < n → session_starts_in (stimuli_of inputs) n ≡ [] =
      λ late. no-session_starts inputs n none late in
      let unoffered : offers_in (stimuli_of inputs) n ≡ [] =
      (λ i. offers_in (sym first i) (sym time-is i)) ∙ quiet.unoffered in
      let eventless : events_in (stimuli_of inputs) n ≡ [] =
      no-events inputs accepted spans n none in
      let unentered = no-enterings inputs routing routes n none in
      let calm = λ (some : 0 < k). ungone (omega arith) in
      let ready = ready-is calm unoffered eventless unentered in
      record {
        empty = empty-now calm unoffered eventless unentered;
        silent = silent-where calm unoffered eventless unentered (λ i part at.
            ap (λ m. sends_own m part) (sym time-is) ∙ quiet.mute i part at);
        unoffered = (λ i. offers_in (stimuli i) (time i)) ∙ unoffered;
        ungone = λ late. (λ i. session_starts_in (stimuli i) (time i))
            ∙ ungone (omega (arith, time));
        eventless = (λ i. events_in (stimuli i) (time i)) ∙ eventless;
        unasked = λ number channel_state at opened. quiet.unasked number channel_state
            (ap (λ (one : ComponentsState). slice_get one.channel_states number) (sym ready) ∙ at)
            (ap (is_open channel_state) (time-is ∙ sym time) ∙ opened);
        unswitched = subst (λ (s : Stimuli).
            All (λ window. IsInWindow window now.time → ⊥) s.schedule.windows) (sym stimuli)
            (subst (λ (m : ℕ). All (λ window. IsInWindow window m → ⊥)
            (stimuli_of inputs).schedule.windows) (sym time) unswitched);
      }

  -- And only such a one does.
  pub quiet-of-still : IsStill now → IsQuiet all k
  quiet-of-still is =
      let stimuli = played-stimuli inputs routing n in
      let first = played-stimuli inputs routing t in
      let time = played-time inputs routing n in
      let unoffered : offers_in (stimuli_of inputs) n ≡ [] =
      (λ i. offers_in (sym stimuli i) (sym time i)) ∙ is.unoffered in
      let eventless : events_in (stimuli_of inputs) n ≡ [] =
      (λ i. events_in (sym stimuli i) (sym time i)) ∙ is.eventless in
      let unentered = still-unentered inputs routing routes n early is in
      let calm : 0 < k → session_starts_in (stimuli_of inputs) n ≡ [] =
      λ some. (λ i. session_starts_in (sym stimuli i) (sym time i))
      ∙ is.ungone (omega (arith, time)) in
      let ready = ready-is calm unoffered eventless unentered in
      record {
        unoffered = (λ i. offers_in (first i) (time-is i)) ∙ unoffered;
        unswitched = subst (λ (m : ℕ). All (λ window. IsInWindow window m → ⊥)
            all.stimuli.schedule.windows) (time ∙ sym time-is)
            (subst (λ (s : Stimuli). All (λ window. IsInWindow window now.time → ⊥)
            s.schedule.windows) (stimuli ∙ sym first) is.unswitched);
        mute = λ i part at. ap (λ m. sends_own m part) time-is
            ∙ mute-where calm unoffered eventless unentered is.silent i part at;
        unasked = λ number channel_state at opened. is.unasked number channel_state
            (ap (λ (one : ComponentsState). slice_get one.channel_states number) ready ∙ at)
            (ap (is_open channel_state) (time ∙ sym time-is) ∙ opened);
      }
