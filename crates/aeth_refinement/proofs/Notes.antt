-- The landings that a cycle notes.
use Rattle.std.proofs.Common.{◌≡◌, ◌<◌, ◌∙◌, ℕ, ◌+◌, sym, ap, arith, List, Some, length, slice_get}
use Rattle.std.proofs.Common.{option_map}
use Rattle.std.proofs.lemmas.Option.{same_Some, slice_get-map}
use Rattle.aeth_components.proofs.CountingLemmas.{counted-open}
use Rattle.aeth_components.specs.{Changes.switched, Components.ComponentsState}
use Rattle.aeth_components.specs.{Components.latched_of, Components.moment_of}
use Rattle.aeth_components.specs.{Components.ComponentsCycle, Counting.brings, Counting.counted}
use Rattle.aeth_components.specs.{Laws.NotesAlone, Laws.RefillsAlone, Laws.TakesAlone}
use Rattle.aeth_components.specs.{Phases.Moment, declared.event.Event.Event}
use Rattle.aeth_components.specs.{declared.channel_state.ChannelState.ChannelState}
use Rattle.aeth_server.specs.PrivateServer.{landed}
use Rattle.aeth_invariant.specs.WellRouted.{AreWellRouted}
use Rattle.aeth_invariant.specs.RoutedSessions.{RoutedSessions, IsOpenSession, server_at}
use Rattle.aeth_invariant.specs.Switches.{Switched}
use Rattle.aeth_refinement.proofs.{Following.drained-served, Following.follow, Noting.notes-on}
use Rattle.aeth_refinement.proofs.{Running.cycles-drained, Running.channel_state-before}
use Rattle.aeth_refinement.proofs.{Serving.opened}
use Rattle.aeth_refinement.specs.{Following.Follows, Places.ArePlaced, Places.HavePlaces}
use Rattle.aeth_refinement.specs.{Served.AreServed, Served.enqueued_after, Logging.NotesLandings}
use Rattle.aeth_refinement.specs.{View.net_of}

module _ (sessions : RoutedSessions) (ok : AreWellRouted sessions) (channel : ℕ → ℕ)
    (events : List Event) (t : ℕ)
    (enqueued : ℕ → ℕ) (old new : ComponentsState)
    (refilling : (words : List ℕ) (cycle : ℕ) (moment : Moment) → RefillsAlone words cycle moment)
    (taking : (cycle : ℕ) (moment : Moment) → TakesAlone cycle moment)
    (follows : Follows sessions channel t t enqueued old)
    (change : Switched sessions (t + 1) (net_of enqueued old.parts old.wires)
    (net_of enqueued (switched events old.parts) old.wires))
    (cycle : ComponentsCycle events t old new) where
  abbrev last : Moment
  last = latched_of old.words events t new.wires (moment_of old)

  abbrev more : ℕ → ℕ
  more = enqueued_after sessions (net_of enqueued (switched events old.parts) old.wires) t

  served : AreServed sessions channel old.words t (t + 1) (t + 1) more last.channel_states
  served = drained-served sessions ok channel events t enqueued old new refilling taking follows
      change
      cycle

  -- What is brought of a session is what lands.
  brought : (c : ℕ) (channel_state : ChannelState) → c < sessions.count → IsOpenSession sessions c t
      → slice_get last.channel_states (channel c) ≡ Some channel_state
      → channel_state.landed + brings last.parts channel_state
      ≡ landed (server_at sessions c) (t + 2)
  brought c channel_state h going at =
      let own = served.own c h going in
      let here : own.channel_state ≡ channel_state =
      same_Some own.channel_state channel_state (sym own.at ∙ at) in
      let is = opened sessions ok old.words c t own.channel_state own.served.of going in
      let has = (follow sessions ok channel events t enqueued old new refilling taking follows
      change
      cycle).served.own c h going in
      let there : slice_get new.channel_states (channel c)
      ≡ Some (counted t last.parts own.channel_state) =
      ap (λ (channel_states : List ChannelState). slice_get channel_states (channel c))
      cycle.channel_states
      ∙ slice_get-map (counted t last.parts) last.channel_states (channel c)
      ∙ ap (option_map (counted t last.parts)) own.at in
      let same : has.channel_state ≡ counted t last.parts own.channel_state =
      same_Some has.channel_state (counted t last.parts own.channel_state) (sym has.at ∙ there) in
      let two : t + 1 + 1 ≡ t + 2 = omega arith in
      ap (λ (s : ChannelState). s.landed + brings last.parts s) (sym here)
      ∙ sym (ap (λ (s : ChannelState). s.landed)
      (same ∙ counted-open t last.parts own.channel_state is))
      ∙ has.served.counted.landed_is
      ∙ ap (λ n. landed (server_at sessions c) n) two

  places-last : (first : ℕ → ℕ) → HavePlaces sessions channel first t old.channel_states
      → HavePlaces sessions channel first t last.channel_states
  places-last first places c channel_state h going at =
      let was = channel_state-before old.channel_states last.channel_states
      (cycles-drained old.words events t new.wires (moment_of old)) (channel c) channel_state at in
      ap (λ (x : ℕ × ℕ × ℕ). x.2) was.2 ∙ places c was.0 h going was.1

  pub notes : (first : ℕ → ℕ) → HavePlaces sessions channel first t old.channel_states
      → ArePlaced sessions first (length old.landings)
      → NotesAlone t last.parts last.channel_states old.landings
      → NotesLandings sessions first t old → NotesLandings sessions first (t + 1) new
  notes first places placed alone before c i u h going early from upto =
      ap (λ (xs : List ℕ). slice_get xs (first c + i)) cycle.landings
      ∙ notes-on sessions ok channel old.words t (t + 1) more last.channel_states last.parts
      old.landings first
      served brought (places-last first places) placed alone before c i u h going early from upto
