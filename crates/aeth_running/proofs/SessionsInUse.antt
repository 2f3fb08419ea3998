-- Which session goes over a channel in a cycle: one of its routed sessions, or none.
use Rattle.std.proofs.Common.{◌≡◌, ◌<◌, ◌∙◌, ◌&&◌, ◌==◌, ℕ, Bool, List, [], ◌∷◌, Some, filter}
use Rattle.std.proofs.Common.{length, map, refl, slice_get, sym, take, ap, arith, eq-eqb, eqb-true}
use Rattle.std.proofs.lemmas.Bool.{and_from, and_parts}
use Rattle.std.proofs.lemmas.Option.{get_or_from_slice_get, slice_get_within}
use Rattle.aeth_base.specs.declared.ids.Channel.{Channel}
use Rattle.aeth_base.proofs.Filters.{filter-filter}
use Rattle.aeth_base.proofs.Lists.{item-at, map-at, map-slice_get, slice_get-take}
use Rattle.aeth_trace.specs.Channels.{channel_number}
use Rattle.aeth_report.specs.SessionList.{listed_at, no_session, session_list}
use Rattle.aeth_report.proofs.FilterPlaces.{filter-at, filter-from}
use Rattle.aeth_invariant.specs.RoutedSessions.{server_at}
use Rattle.aeth_accepted.specs.Inputs.{Inputs, run_of}
use Rattle.aeth_routed_sessions.specs.RoutedSessions.{routed_sessions_of}
use Rattle.aeth_schedule.specs.SessionStarts.{session_starts_of}
use Rattle.aeth_schedule.specs.declared.session_start.SessionStart.{SessionStart}
use Rattle.aeth_running.{proofs.ChannelNumbers.channel-same, proofs.NumberedSessions.session_at}
use Rattle.aeth_running.{proofs.InOrder.passes-at, specs.Network.session_starts_in}
use Rattle.aeth_stimuli.specs.Stimuli.{is_over, stimuli_of}
use Rattle.aeth_stimuli.specs.Sessions.{SessionStartData, as_session_start, channel_of}
use Rattle.aeth_stimuli.specs.Sessions.{session_start_of, listed_session_start}

module _ (inputs : Inputs) (t : ℕ) (channel : Channel) where
  -- The sessions over a channel that go in a cycle, as the schedule has them.
  abbrev pub session_start_now : List SessionStart
  session_start_now =
      filter (is_over (channel_number channel)) (session_starts_in (stimuli_of inputs) t)

  -- No session goes over the channel in the cycle, or one does.
  pub data GoesNow : Type 0 where
    NoneGoes : session_start_now ≡ []
        → ((c : ℕ) → c < (routed_sessions_of inputs).count
        → channel_of inputs c ≡ channel_number channel
        → (server_at (routed_sessions_of inputs) c).go ≡ t → ⊥)
        → GoesNow
    OneGoes : (c : ℕ) → c < (routed_sessions_of inputs).count
        → (listed_at (run_of inputs) c).channel ≡ channel
        → (server_at (routed_sessions_of inputs) c).go ≡ t
        → (session_start : SessionStart) → session_start_now ≡ session_start ∷ []
        → as_session_start session_start ≡ session_start_of inputs channel (session_at inputs c)
        → GoesNow

  module _ (early : t < inputs.cycles)
      (numbers : map as_session_start (session_starts_of inputs) ≡ map (listed_session_start inputs)
      (take (length (session_starts_of inputs)) (session_list (run_of inputs))))
      (within : (c : ℕ) → c < (routed_sessions_of inputs).count
      → (server_at (routed_sessions_of inputs) c).go < inputs.cycles
      → c < length (session_starts_of inputs))
      (once : (c d : ℕ) → c < (routed_sessions_of inputs).count
      → d < (routed_sessions_of inputs).count
      → channel_of inputs c ≡ channel_of inputs d
      → (server_at (routed_sessions_of inputs) c).go ≡ (server_at (routed_sessions_of inputs) d).go
      → c ≡ d) where
    -- Going number c is the session of that number.
    is-session : (c : ℕ) (session_start : SessionStart)
        → slice_get (session_starts_of inputs) c ≡ Some session_start
        → (c < (routed_sessions_of inputs).count)
        × (as_session_start session_start
        ≡ listed_session_start inputs (listed_at (run_of inputs) c))
    is-session c session_start at =
        let session_starts = session_starts_of inputs in
        let all = session_list (run_of inputs) in
        let (session, there, is) =
        map-slice_get (listed_session_start inputs) (take (length session_starts) all) c
        (as_session_start session_start)
        (ap (λ (list : List SessionStartData). slice_get list c) (sym numbers)
        ∙ map-at as_session_start session_starts c session_start at) in
        let stands : slice_get all c ≡ Some session =
        sym (slice_get-take (length session_starts) all c
        (slice_get_within session_starts c session_start at)) ∙ there in (
          slice_get_within all c session stands,
          sym is ∙ ap (listed_session_start inputs)
              (sym (get_or_from_slice_get all c session no_session stands)),
        )

    -- Those of the channel that go in the cycle.
    abbrev passes : SessionStart → Bool
    passes session_start =
        session_start.channel_state.go == t && is_over (channel_number channel) session_start

    now-is : session_start_now ≡ filter passes (session_starts_of inputs)
    now-is = filter-filter (λ (session_start : SessionStart). session_start.channel_state.go == t)
        (is_over (channel_number channel)) (session_starts_of inputs)

    -- What stands at a place of these is a session of the channel that goes then.
    record IsAt (i : ℕ) (session_start : SessionStart) : Type 0 where
      c : ℕ
      known : c < (routed_sessions_of inputs).count
      same : as_session_start session_start
          ≡ listed_session_start inputs (listed_at (run_of inputs) c)
      on : channel_of inputs c ≡ channel_number channel
      go : (server_at (routed_sessions_of inputs) c).go ≡ t
      counts : length (filter passes (take c (session_starts_of inputs))) ≡ i

    is-at : (kept : List SessionStart) → filter passes (session_starts_of inputs) ≡ kept → (i : ℕ)
        (session_start : SessionStart) → slice_get kept i ≡ Some session_start
        → IsAt i session_start
    is-at kept is i session_start at =
        let session_starts = session_starts_of inputs in
        let there : slice_get (filter passes session_starts) i ≡ Some session_start =
        ap (λ (list : List SessionStart). slice_get list i) is ∙ at in
        let (c, stands, counts) = filter-from passes session_starts i session_start there in
        let (known, same) = is-session c session_start stands in
        let (now, over) =
        and_parts (session_start.channel_state.go == t)
        (is_over (channel_number channel) session_start)
        (passes-at passes session_starts i session_start there) in
        record {
          c = c;
          known = known;
          same = same;
          on = sym (ap (λ (one : SessionStartData). channel_number one.channel) same)
              ∙ eqb-true (channel_number session_start.channel) (channel_number channel) over;
          go = sym (ap (λ (one : SessionStartData). one.channel_state.go) same)
              ∙ eqb-true session_start.channel_state.go t now;
          counts = counts;
        }

    -- Where there are none, no session of the channel goes then.
    never : filter passes (session_starts_of inputs) ≡ [] → (c : ℕ)
        → c < (routed_sessions_of inputs).count
        → channel_of inputs c ≡ channel_number channel
        → (server_at (routed_sessions_of inputs) c).go ≡ t → ⊥
    never none c known on go =
        let session_starts = session_starts_of inputs in
        let (session_start, at) =
        item-at session_starts c (within c known (omega (arith, go, early))) in
        let same = (is-session c session_start at).1 in
        let pass = and_from (session_start.channel_state.go == t)
        (is_over (channel_number channel) session_start)
        (eq-eqb session_start.channel_state.go t
        (ap (λ (one : SessionStartData). one.channel_state.go) same ∙ go))
        (eq-eqb (channel_number session_start.channel) (channel_number channel)
        (ap (λ (one : SessionStartData). channel_number one.channel) same ∙ on)) in
        absurd (cc (ap (λ (list : List SessionStart). slice_get list
        (length (filter passes (take c session_starts)))) (sym none)
        ∙ filter-at passes session_starts c session_start at pass))

    goes-by : (kept : List SessionStart) → filter passes (session_starts_of inputs) ≡ kept → GoesNow
    goes-by [] none = NoneGoes (now-is ∙ none) (never none)
    goes-by (session_start ∷ []) one =
        let found = is-at (session_start ∷ []) one 0 session_start refl in
        let own = channel-same (listed_at (run_of inputs) found.c).channel channel found.on in
        OneGoes found.c found.known own found.go session_start (now-is ∙ one)
        (found.same ∙ ap (λ (ch : Channel). session_start_of inputs ch (session_at inputs found.c))
        own)
    goes-by (session_start ∷ other ∷ later) two =
        let first = is-at (session_start ∷ other ∷ later) two 0 session_start refl in
        let second = is-at (session_start ∷ other ∷ later) two 1 other refl in
        let same = once first.c second.c first.known second.known
        (first.on ∙ sym second.on) (first.go ∙ sym second.go) in
        let counts =
        ap (λ (c : ℕ). length (filter passes (take c (session_starts_of inputs)))) same in
        let none = first.counts in
        let one = second.counts in
        absurd (omega (arith, counts, none, one))

    -- So none goes over the channel, or one.
    pub goes-now : GoesNow
    goes-now = goes-by (filter passes (session_starts_of inputs)) refl
