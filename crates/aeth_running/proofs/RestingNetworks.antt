-- A network of accepted inputs in an idle cycle: refilling enqueues nothing.
use Rattle.std.proofs.Common.{◌≡◌, ◌≤◌, ◌<◌, ◌⊎◌, ◌∙◌, ◌+◌, ◌-◌, ℕ, suc, Contains, List, [], ◌∷◌}
use Rattle.std.proofs.Common.{None, Option, Some, ap, arith, filter, inl, inr, length, map, min}
use Rattle.std.proofs.Common.{refl, slice_get, subst, sym, nat_le, nat_lt, ◌&&◌, le-ltb, lt-ltb}
use Rattle.std.proofs.lemmas.{Bool.cases_Bool, Bool.cases_lt, Bool.cases_order, Option.same_Some}
use Rattle.aeth_base.proofs.Members.{Contains-here, Contains-there, filter-Contains, map-Contains}
use Rattle.aeth_clocked.specs.{Wires.flit_on, declared.flit.Flit.Flit}
use Rattle.aeth_ni.specs.{Limits.waiting_words, Queue.QueueState}
use Rattle.aeth_server.proofs.SessionEnds.{idle-before}
use Rattle.aeth_server.specs.FinishTimes.{arrivals_before}
use Rattle.aeth_server.specs.PrivateServer.{PrivateServer, arrived, sent}
use Rattle.aeth_trace.specs.{declared.words.WordRow.WordRow, Channels.is_channel}
use Rattle.aeth_components.proofs.TurnLemmas.{refilled-closed, refilled-none, refilled-open}
use Rattle.aeth_components.specs.{Changes.switched, Components.ComponentsState}
use Rattle.aeth_components.specs.{Components.ComponentsCycle, Wirings.wiring_of}
use Rattle.aeth_components.specs.{ChannelStates.is_open, Phases.left_of, Phases.refilled}
use Rattle.aeth_components.specs.{View.queue_of as queue_in_parts, declared.event.Event.Event}
use Rattle.aeth_components.specs.{declared.channel_state.ChannelState.ChannelState}
use Rattle.aeth_router.specs.declared.part.Part.{Part}
use Rattle.aeth_invariant.specs.WellRouted.{AreWellRouted}
use Rattle.aeth_invariant.specs.RoutedSessions.{RoutedSessions, IsOpenSession, Owns, server_at}
use Rattle.aeth_invariant.specs.Switches.{Switched}
use Rattle.aeth_invariant.proofs.{Owning.waiting-length, Unique.paths-of}
use Rattle.aeth_accepted.specs.Inputs.{Inputs, run_of}
use Rattle.aeth_routed_sessions.specs.RoutedSessions.{routed_sessions_of}
use Rattle.aeth_stimuli.specs.{Sessions.channel_of, Stimuli.stimuli_of, Events.events_in}
use Rattle.aeth_refinement.specs.{Events.AreEvents, Following.Follows, WiredFor.IsWiredFor}
use Rattle.aeth_refinement.specs.{Served.enqueued_after, View.net_of}
use Rattle.aeth_running.proofs.KeptChannelStates.{cycle-behind}
use Rattle.aeth_running.proofs.NetworkWires.{exact}
use Rattle.aeth_running.proofs.Played.{played-next, played-stimuli, played-time}
use Rattle.aeth_running.proofs.SettledQueues.{enqueued-full, enqueued_on-full, sent-same}
use Rattle.aeth_running.specs.{Network.NetworkState, Network.first_network, Network.played}
use Rattle.aeth_running.specs.{Network.ready_in, Network.state_behind, Network.stepped}
use Rattle.aeth_running.specs.{Running.HoldsBefore, Running.IsServing, Routing.Routing}
use Rattle.aeth_report.specs.SessionList.{listed_at}

-- Where no word is offered in a cycle, none arrives in it.
same-arrivals : (t : ℕ) (xs : List ℕ) → ((a : ℕ) → Contains xs a → a ≡ t → ⊥)
    → arrivals_before xs (t + 1) ≡ arrivals_before xs t
same-arrivals t [] none = refl
same-arrivals t (x ∷ xs) none =
    let rest = same-arrivals t xs (λ a has. none a (Contains-there x xs a has)) in
    elim (cases_order x t) [
      | inl same ↦ absurd (none x (Contains-here x xs) same)
      | inr (inl before) ↦ rw (lt-ltb x t before, lt-ltb x (t + 1) (omega arith))
          (ap (λ n. suc n) rest)
      | inr (inr behind) ↦ rw (le-ltb x t (omega arith), le-ltb x (t + 1) (omega arith)) rest
    ]

same-arrived : (server : PrivateServer) (t : ℕ)
    → ((a : ℕ) → Contains server.offers a → a ≡ t → ⊥) → arrived server (t + 1) ≡ arrived server t
same-arrived server t none =
    let accepts = λ (a : ℕ). nat_le server.go a && nat_lt a server.until in
    same-arrivals t (filter accepts server.offers)
    (λ a has. none a (filter-Contains accepts server.offers a has).0)

-- The components behind a cycle.
pub stepped-components : (all : NetworkState)
    → (stepped all).components ≡ state_behind (events_in all.stimuli all.time) all.time (ready_in all)
unfolding stepped
stepped-components all = refl

module _ (inputs : Inputs) (routing : Routing) (ok : AreWellRouted (routed_sessions_of inputs))
    (follows-on : (sessions : RoutedSessions) → AreWellRouted sessions → (channel : ℕ → ℕ)
    (events : List Event) (t : ℕ) (enqueued : ℕ → ℕ) (old new : ComponentsState)
    → Follows sessions channel t t enqueued old → AreEvents sessions (t + 1) events
    → ComponentsCycle events t old new → Follows sessions channel t (t + 1)
    (enqueued_after sessions (net_of enqueued (switched events old.parts) old.wires) t) new)
    (switches : (sessions : RoutedSessions) (e : ℕ) (events : List Event) (parts : List Part)
    (enqueued : ℕ → ℕ) (wires : List (Option Flit)) (count : ℕ)
    → IsWiredFor sessions (map wiring_of parts) count → AreEvents sessions e events
    → Switched sessions e (net_of enqueued parts wires)
    (net_of enqueued (switched events parts) wires))
    (events-are : (t : ℕ) → t < inputs.cycles
    → AreEvents (routed_sessions_of inputs) (t + 1) (events_in (stimuli_of inputs) t))
    (running : (t : ℕ) → t ≤ inputs.cycles
    → HoldsBefore inputs t (played t (first_network inputs routing)).components)
    (serving : (t : ℕ) → t < inputs.cycles
    → IsServing inputs t (played t (first_network inputs routing)).components
    (ready_in (played t (first_network inputs routing)))) where
  abbrev sessions : RoutedSessions
  sessions = routed_sessions_of inputs

  abbrev ready : ℕ → ComponentsState
  ready t = ready_in (played t (first_network inputs routing))

  components-next : (t : ℕ) → (played (t + 1) (first_network inputs routing)).components
      ≡ state_behind (events_in (stimuli_of inputs) t) t (ready t)
  components-next t =
      let all = played t (first_network inputs routing) in
      let stimuli = played-stimuli inputs routing t in
      let time = played-time inputs routing t in
      ap (λ (one : NetworkState). one.components) (played-next (first_network inputs routing) t)
      ∙ stepped-components all
      ∙ (λ i. state_behind (events_in (stimuli i) (time i)) (time i) (ready t))

  -- A session that is in use in a cycle and went before it has enqueued so many words.
  enqueued-before : (t c : ℕ) (known : c < sessions.count) (early : t + 1 < inputs.cycles)
      (going : IsOpenSession sessions c (t + 1)) → (server_at sessions c).go ≤ t
      → (serving (t + 1) early).enqueued c
      ≡ min (sent (server_at sessions c) t + waiting_words) (arrived (server_at sessions c) (suc t))
  enqueued-before t c known early going gone =
      let goes = going.goes in
      let unfinished = going.unfinished in
      let earlier : IsOpenSession sessions c t = record { goes = gone; unfinished = omega arith } in
      let before = serving t (omega arith) in
      let serves = serving (t + 1) early in
      let old = ready t in
      let events = events_in (stimuli_of inputs) t in
      let new = state_behind events t old in
      let are = events-are t (omega arith) in
      let tables = net_of before.enqueued (switched events old.parts) old.wires in
      let follows = follows-on sessions ok (channel_of inputs) events t before.enqueued old new
      before.follows are (cycle-behind events t old) in
      let next : t + 1 ≡ suc t = omega arith in
      let change : Switched sessions (suc t) (net_of before.enqueued old.parts old.wires) tables =
      subst (λ n. Switched sessions n (net_of before.enqueued old.parts old.wires) tables) next
      (switches sessions (t + 1) events old.parts before.enqueued old.wires (length old.wires)
      before.follows.wired_for are) in
      let full = enqueued-full sessions ok t c known earlier
      (net_of before.enqueued old.parts old.wires) tables
      before.follows.stands change in
      let was = follows.served.own c known earlier in
      let there = ap (λ (all : ComponentsState). slice_get all.channel_states (channel_of inputs c))
      (components-next t) ∙ was.at in
      let stays = serves.prepares.stays c was.channel_state known going (omega arith) there in
      let has = serves.follows.served.own c known going in
      let same = same_Some has.channel_state _ (sym has.at ∙ stays) in
      sym has.served.counted.enqueued_is
      ∙ ap (λ (channel_state : ChannelState). channel_state.enqueued) same
      ∙ was.served.counted.enqueued_is ∙ full

  enqueued-at : (t u c : ℕ) (known : c < sessions.count) (early : t < inputs.cycles)
      (going : IsOpenSession sessions c t) → u + 1 ≡ t → (server_at sessions c).go ≤ u
      → (serving t early).enqueued c
      ≡ min (sent (server_at sessions c) u + waiting_words) (arrived (server_at sessions c) (suc u))
  enqueued-at t u c known early going next gone =
      subst (λ (n : ℕ). (soon : n < inputs.cycles) (going : IsOpenSession sessions c n)
      → (serving n soon).enqueued c
      ≡ min (sent (server_at sessions c) u + waiting_words)
      (arrived (server_at sessions c) (suc u))) next
      (λ soon using. enqueued-before u c known soon using gone) early going

  module _ (t : ℕ) (early : t < inputs.cycles)
      (empty : (l : ℕ) → flit_on (played t (first_network inputs routing)).components.wires l ≡ None)
      (unoffered : (row : WordRow) → Contains inputs.words row → row.cycle ≡ t → ⊥) where
    -- No word arrives in the cycle.
    none-arrives : (c : ℕ)
        → arrived (server_at sessions c) (t + 1) ≡ arrived (server_at sessions c) t
    none-arrives c =
        let channel = (listed_at (run_of inputs) c).channel in
        let own = λ (row : WordRow). is_channel channel row.channel in
        same-arrived (server_at sessions c) t (λ a has now.
        let (row, is, listed) = map-Contains (λ (row : WordRow). row.cycle)
        (filter own inputs.words) a has in
        unoffered row (filter-Contains own inputs.words row listed).0 (is ∙ now))

    -- No word was sent in the cycle before.
    none-sent : (u c : ℕ) → c < sessions.count → IsOpenSession sessions c u → u + 1 ≡ t
        → sent (server_at sessions c) t ≡ sent (server_at sessions c) u
    none-sent u c known going next =
        ap (sent (server_at sessions c)) (sym next)
        ∙ sent-same sessions ok u c known going
        (flit_on (played (u + 1) (first_network inputs routing)).components.wires)
        (exact inputs routing running u (omega arith))
        (λ l. ap (λ n. flit_on (played n (first_network inputs routing)).components.wires l) next ∙ empty l)

    -- A session in use has enqueued all that it accepted, or eight of its words wait.
    settled : (c : ℕ) (known : c < sessions.count) (going : IsOpenSession sessions c t)
        → (arrived (server_at sessions c) (t + 1) ≤ (serving t early).enqueued c)
        ⊎ (length (queue_in_parts (ready t).parts (sessions.routed_session c).ni
        (sessions.routed_session c).queue).waiting ≡ waiting_words)
    settled c known going =
        let server = server_at sessions c in
        let goes = going.goes in
        let unfinished = going.unfinished in
        let arrives = none-arrives c in
        elim (cases_lt server.go t) [
          | inr late ↦
              let none = (idle-before server (paths-of sessions ok c known) t late).arrived in
              inl (omega (arith, none, arrives))
          | inl before ↦
              let u = t - 1 in
              let next : u + 1 ≡ t = omega arith in
              let enqueued = enqueued-at t u c known early going next (omega arith) in
              let earlier : IsOpenSession sessions c u =
              record { goes = omega arith; unfinished = omega arith } in
              let sends = none-sent u c known earlier next in
              let now : suc u ≡ t = omega arith in
              let arrived_is = ap (arrived server) now in
              let order = ok.ordered c known in
              let since = order.set_since in
              let set = order.set_go in
              let own : Owns sessions c t = record { since = omega arith; finish = omega arith } in
              let serves = serving t early in
              let waits = waiting-length sessions ok t t
              (net_of serves.enqueued (ready t).parts (ready t).wires) serves.follows.stands c known
              own in
              elim (cases_lt (sent server u + waiting_words) (arrived server t)) [
                | inl more ↦ inr (omega (arith, enqueued, sends, arrived_is, waits, more))
                | inr fewer ↦ inl (omega (arith, enqueued, arrives, arrived_is, fewer))
              ]
        ]

    -- So refilling leaves its channel.
    pub enqueues-rest : (number : ℕ) (channel_state : ChannelState)
        → slice_get (ready t).channel_states number ≡ Some channel_state
        → refilled (ready t).words t (ready t).parts channel_state
        ≡ ((ready t).parts, channel_state)
    enqueues-rest number channel_state at =
        let parts = (ready t).parts in
        let words = (ready t).words in
        let serves = serving t early in
        elim (cases_Bool (is_open channel_state t)) [
          | inr closed ↦ refilled-closed words t parts channel_state closed
          | inl opened ↦
              let used = serves.follows.served.only number channel_state at opened in
              let c = used.session in
              let has = serves.follows.served.own c used.known used.going in
              let same : has.channel_state ≡ channel_state =
              same_Some has.channel_state channel_state
              (sym (sym (ap (slice_get (ready t).channel_states) used.place) ∙ has.at) ∙ at) in
              let accepted = sym (ap (λ (one : ChannelState). one.accepted) same)
              ∙ has.served.fed.accepted in
              let enqueued = sym (ap (λ (one : ChannelState). one.enqueued) same)
              ∙ has.served.counted.enqueued_is in
              let ni = sym (ap (λ (one : ChannelState). one.sender.ni.0) same)
              ∙ has.served.of.sender.ni in
              let queue = sym (ap (λ (one : ChannelState). one.sender.queue) same)
              ∙ has.served.of.sender.queue in
              elim (settled c used.known used.going) [
                | inl all ↦ refilled-none words t parts channel_state
                    (omega (arith, all, accepted, enqueued))
                | inr full ↦
                    refilled-open words t parts channel_state opened
                    ∙ enqueued_on-full (left_of words channel_state) parts channel_state
                    (ap (λ (q : QueueState). length q.waiting)
                    (λ i. queue_in_parts parts (ni i) (queue i)) ∙ full)
              ]
        ]
