-- Cycles in which no receiver takes a word, of channels and of the private servers of their sessions.
use Rattle.std.proofs.Common.{◌≡◌, ◌≤◌, ◌<◌, ◌∙◌, ◌+◌, ◌-◌, ℕ, Bool, true, List, Some, suc, ap}
use Rattle.std.proofs.Common.{arith, cond, inl, inr, min, slice_get, sym, le-leb, lt-ltb}
use Rattle.std.proofs.lemmas.{Bool.and_from, Bool.cases_lt, Option.same_Some}
use Rattle.aeth_components.specs.{ChannelStates.is_open, Phases.asked_of}
use Rattle.aeth_components.specs.{declared.channel_state.ChannelState.ChannelState}
use Rattle.aeth_server.proofs.PrivateServerLemmas.{taken-next}
use Rattle.aeth_server.proofs.SessionEnds.{idle-before, is-closed}
use Rattle.aeth_server.specs.PrivateServer.{PrivateServer, landed, pull_at, taken}
use Rattle.aeth_server.specs.Shape.{HasPaths}
use Rattle.aeth_invariant.proofs.Unique.{paths-of}
use Rattle.aeth_invariant.specs.WellRouted.{AreWellRouted}
use Rattle.aeth_invariant.specs.RoutedSessions.{RoutedSessions, IsOpenSession, server_at}
use Rattle.aeth_refinement.specs.Served.{AreServed, HasChannelState, IsChannelStateOf}

-- A server that isn't gone yet or is finished takes nothing.
pub rests-early : (server : PrivateServer) → HasPaths server.shape → (t : ℕ) → t < server.go
    → taken server (t + 1) ≡ taken server t
rests-early server paths t early =
    let now = (idle-before server paths t (omega arith)).taken in
    let next = (idle-before server paths (t + 1) (omega arith)).taken in
    next ∙ sym now

rests-late : (server : PrivateServer) → HasPaths server.shape → (t : ℕ) → server.finish ≤ t
    → taken server (t + 1) ≡ taken server t
rests-late server paths t late =
    (is-closed server paths (t + 1)).taken (omega arith) ∙ sym ((is-closed server paths t).taken late)

module _ (sessions : RoutedSessions) (ok : AreWellRouted sessions) (channel : ℕ → ℕ)
    (words : List ℕ) (t : ℕ)
    (enqueued : ℕ → ℕ) (channel_states : List ChannelState)
    (served : AreServed sessions channel words t (t + 1) t enqueued channel_states) where
  -- The channel of a session in use is open.
  open-in : (c : ℕ) → IsOpenSession sessions c t → (channel_state : ChannelState)
      → IsChannelStateOf sessions words c channel_state
      → is_open channel_state t ≡ true
  open-in c going channel_state of =
      let go = of.go in
      let fin = of.fin in
      let goes = going.goes in
      let unfinished = going.unfinished in
      and_from _ _ (le-leb channel_state.go t (omega arith))
      (lt-ltb t channel_state.fin (omega arith))

  -- It asks for what the session's receiver takes.
  takes-asked : (c : ℕ) → c < sessions.count → IsOpenSession sessions c t
      → (has : HasChannelState sessions words (channel c) c t (enqueued c) (t + 1) t channel_states)
      → taken (server_at sessions c) (t + 1)
      ≡ taken (server_at sessions c) t + asked_of has.channel_state
  takes-asked c known going has =
      let server = server_at sessions c in
      let next : suc t ≡ t + 1 = omega arith in
      let pulls : pull_at server t ≡ server.pull t =
      ap (λ (b : Bool). cond b (server.pull t) 0) (lt-ltb t server.finish going.unfinished) in
      let pull = has.served.fed.pull in
      let lands = has.served.counted.landed_is in
      let takes = has.served.counted.taken_is in
      let more : taken server (suc t)
      ≡ taken server t + min (pull_at server t) (landed server (suc t) - taken server t) =
      taken-next server (paths-of sessions ok c known) t in
      let lands_next = ap (landed server) next in
      let takes_next = ap (taken server) next in
      omega arith

  -- Where no open channel asks, no session's receiver takes.
  pub rest-taken :
      ((number : ℕ) (channel_state : ChannelState)
      → slice_get channel_states number ≡ Some channel_state
      → is_open channel_state t ≡ true → asked_of channel_state ≡ 0)
      → (c : ℕ) → c < sessions.count
      → taken (server_at sessions c) (t + 1) ≡ taken (server_at sessions c) t
  rest-taken none c known =
      let server = server_at sessions c in
      let paths = paths-of sessions ok c known in
      elim (cases_lt t server.go) [
        | inl early ↦ rests-early server paths t early
        | inr gone ↦ elim (cases_lt t server.finish) [
          | inr late ↦ rests-late server paths t late
          | inl unfinished ↦
              let going : IsOpenSession sessions c t =
              record { goes = gone; unfinished = unfinished } in
              let has = served.own c known going in
              let asks = none (channel c) has.channel_state has.at
              (open-in c going has.channel_state has.served.of) in
              let takes = takes-asked c known going has in
              omega arith
        ]
      ]

  -- And where none takes, none asks.
  pub rest-asked : ((c : ℕ) → c < sessions.count → IsOpenSession sessions c t
      → taken (server_at sessions c) (t + 1) ≡ taken (server_at sessions c) t)
      → (number : ℕ) (channel_state : ChannelState)
      → slice_get channel_states number ≡ Some channel_state → is_open channel_state t ≡ true
      → asked_of channel_state ≡ 0
  rest-asked rests number channel_state at opened =
      let used = served.only number channel_state at opened in
      let has = served.own used.session used.known used.going in
      let same : has.channel_state ≡ channel_state = same_Some has.channel_state channel_state
      (sym (sym (ap (slice_get channel_states) used.place) ∙ has.at) ∙ at) in
      let takes = takes-asked used.session used.known used.going has in
      let none = rests used.session used.known used.going in
      let asked : asked_of has.channel_state ≡ 0 = omega arith in
      sym (ap asked_of same) ∙ asked
