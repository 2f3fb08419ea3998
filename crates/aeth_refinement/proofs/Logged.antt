-- What the channel of a session tells, also once this is finished.
use Rattle.std.proofs.Common.{◌≡◌, ◌≤◌, ◌<◌, ◌∙◌, ℕ, ◌+◌, min, sym, ap, subst, arith, inl, inr}
use Rattle.std.proofs.Common.{false, leb, ltb, List, Some, slice_get, option_map, ltb-true}
use Rattle.std.proofs.lemmas.{Bool.and_parts, Bool.cases_Bool, Bool.cases_lt, Option.slice_get-map}
use Rattle.aeth_components.proofs.CountingLemmas.{counted-closed}
use Rattle.aeth_components.specs.{Components.ComponentsState, Components.ComponentsCycle}
use Rattle.aeth_components.specs.{Components.driven_from, Components.latched_of}
use Rattle.aeth_components.specs.{Components.moment_of, Components.ready_of}
use Rattle.aeth_components.specs.{Components.switched_from, Counting.counted, ChannelStates.is_open}
use Rattle.aeth_components.specs.{Laws.RefillsAlone, Laws.TakesAlone, Phases.Moment}
use Rattle.aeth_components.specs.{declared.event.Event.Event}
use Rattle.aeth_components.specs.{declared.channel_state.ChannelState.ChannelState}
use Rattle.aeth_server.specs.PrivateServer.{landed, taken}
use Rattle.aeth_invariant.specs.RoutedSessions.{RoutedSessions, IsOpenSession, server_at}
use Rattle.aeth_refinement.specs.{Following.Follows, Running.Prepares, Running.Starts}
use Rattle.aeth_refinement.specs.{Served.IsChannelStateOf, Logging.HasLogged}

module _ (sessions : RoutedSessions) (channel : ℕ → ℕ) (events : List Event) (t : ℕ) (more : ℕ → ℕ)
    (old ready new : ComponentsState)
    (refilling : (words : List ℕ) (cycle : ℕ) (moment : Moment) → RefillsAlone words cycle moment)
    (taking : (cycle : ℕ) (moment : Moment) → TakesAlone cycle moment)
    (prepares : Prepares sessions channel t old ready) (cycle : ComponentsCycle events t ready new)
    (follows : Follows sessions channel t (t + 1) more new) where
  -- A channel that isn't open stays in a cycle.
  closed-stays : (number : ℕ) (channel_state : ChannelState)
      → slice_get ready.channel_states number ≡ Some channel_state
      → is_open channel_state t ≡ false → slice_get new.channel_states number ≡ Some channel_state
  closed-stays number channel_state at closed =
      let tables = switched_from events (moment_of ready) in
      let filled = ready_of ready.words events t (moment_of ready) in
      let gone = driven_from t filled in
      let latched = latched_of ready.words events t new.wires (moment_of ready) in
      let first = (refilling ready.words t tables).closed number channel_state at closed in
      let second = (taking t gone).closed number channel_state first closed in
      ap (λ (channel_states : List ChannelState). slice_get channel_states number)
      cycle.channel_states
      ∙ slice_get-map (counted t latched.parts) latched.channel_states number
      ∙ ap (option_map (counted t latched.parts)) second
      ∙ ap (λ (s : ChannelState). Some s) (counted-closed t latched.parts channel_state closed)

  past-closed : (channel_state : ChannelState) → channel_state.fin ≤ t
      → is_open channel_state t ≡ false
  past-closed channel_state past = elim (cases_Bool (is_open channel_state t)) [
    | inl is ↦
        let both = and_parts (leb channel_state.go t) (ltb t channel_state.fin) is in
        let early = ltb-true t channel_state.fin both.1 in
        absurd (omega (arith, early, past))
    | inr not ↦ not
  ]

  -- A session in use has its counts on its channel.
  logged-going : (c : ℕ) → c < sessions.count → IsOpenSession sessions c t
      → HasLogged sessions channel (t + 1) c new
  logged-going c h going =
      let has = follows.served.own c h going in
      let server = server_at sessions c in
      let upto = going.unfinished in
      let all : min (t + 1) server.finish ≡ t + 1 = omega (arith, upto) in
      record {
        channel_state = has.channel_state;
        at = has.at;
        of = has.served.of;
        landed_is = has.served.counted.landed_is ∙ ap (λ n. landed server (n + 1)) (sym all);
        taken_is = has.served.counted.taken_is ∙ ap (λ n. taken server n) (sym all);
      }

  -- One that is finished keeps them.
  logged-finished : (c : ℕ) → (server_at sessions c).finish ≤ t
      → (Starts sessions channel t (channel c) → ⊥) → HasLogged sessions channel t c old
      → HasLogged sessions channel (t + 1) c new
  logged-finished c past alone logged =
      let server = server_at sessions c in
      let before : min t server.finish ≡ server.finish = omega (arith, past) in
      let now : min (t + 1) server.finish ≡ server.finish = omega (arith, past) in
      let same : min t server.finish ≡ min (t + 1) server.finish = before ∙ sym now in
      elim (prepares.keeps (channel c) logged.channel_state logged.at) [
        | inl starts ↦ absurd (alone starts)
        | inr kept ↦
            let channel_state = kept.0 in
            let of = logged.of in
            let fin : channel_state.fin ≡ server.finish = ap (λ (s : ChannelState). s.fin) kept.2
            ∙ of.fin in
            let of_ready : IsChannelStateOf sessions old.words c channel_state =
            subst (IsChannelStateOf sessions old.words c) (sym kept.2) (record {
              sender = of.sender;
              receiver = of.receiver;
              go = of.go;
              fin = of.fin;
              values = of.values;
            }) in
            record {
              channel_state = channel_state;
              at = closed-stays (channel c) channel_state kept.1
                  (past-closed channel_state (omega (arith, fin, past)));
              of = subst (λ (ws : List ℕ). IsChannelStateOf sessions ws c channel_state)
                  (sym (cycle.words ∙ prepares.words)) of_ready;
              landed_is = ap (λ (s : ChannelState). s.landed) kept.2 ∙ logged.landed_is
                  ∙ ap (λ n. landed server (n + 1)) same;
              taken_is = ap (λ (s : ChannelState). s.taken) kept.2 ∙ logged.taken_is
                  ∙ ap (λ n. taken server n) same;
            }
      ]

  pub tells-on : (c : ℕ) → c < sessions.count → (server_at sessions c).go ≤ t
      → (server_at sessions c).go < (server_at sessions c).finish
      → ((server_at sessions c).finish ≤ t → Starts sessions channel t (channel c) → ⊥)
      → ((server_at sessions c).go < t → HasLogged sessions channel t c old)
      → HasLogged sessions channel (t + 1) c new
  tells-on c h goes lasts alone logged = elim (cases_lt t (server_at sessions c).finish) [
    | inl upto ↦ logged-going c h (record { goes = goes; unfinished = upto })
    | inr past ↦ logged-finished c past (alone past) (logged (omega (arith, lasts, past)))
  ]
