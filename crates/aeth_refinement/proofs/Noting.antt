-- What is noted of landings is when words land on private servers.
use Rattle.std.proofs.Common.{◌≡◌, ◌≤◌, ◌<◌, ◌∙◌, ℕ, ◌+◌, ◌-◌, sym, ap, subst, arith, inl, inr}
use Rattle.std.proofs.Common.{List, Some, fold, length, slice_get}
use Rattle.std.proofs.lemmas.Bool.{cases_lt}
use Rattle.aeth_router.specs.declared.part.Part.{Part}
use Rattle.aeth_components.specs.{Counting.brings, Counting.noted, Laws.NotesAlone}
use Rattle.aeth_components.specs.{declared.channel_state.ChannelState.ChannelState}
use Rattle.aeth_server.{proofs.PrivateServerLemmas.sent-more, specs.PrivateServer.landed}
use Rattle.aeth_invariant.proofs.{Owning.landed-most, Unique.paths-of}
use Rattle.aeth_invariant.specs.WellRouted.{AreWellRouted}
use Rattle.aeth_invariant.specs.RoutedSessions.{RoutedSessions, IsOpenSession, server_at}
use Rattle.aeth_refinement.proofs.Serving.{open-of, opened}
use Rattle.aeth_refinement.specs.{Places.ArePlaced, Places.HavePlaces, Served.AreServed}

module _ (sessions : RoutedSessions) (ok : AreWellRouted sessions) (channel : ℕ → ℕ)
    (words : List ℕ) (t takes : ℕ)
    (more : ℕ → ℕ) (channel_states : List ChannelState) (parts : List Part) (landings : List ℕ)
    (first : ℕ → ℕ)
    (served : AreServed sessions channel words t (t + 1) takes more channel_states)
    (brought : (c : ℕ) (channel_state : ChannelState) → c < sessions.count
    → IsOpenSession sessions c t
    → slice_get channel_states (channel c) ≡ Some channel_state
    → channel_state.landed + brings parts channel_state ≡ landed (server_at sessions c) (t + 2))
    (places : HavePlaces sessions channel first t channel_states)
    (placed : ArePlaced sessions first (length landings))
    (alone : NotesAlone t parts channel_states landings) where
  abbrev after : List ℕ
  after = fold (noted t parts) landings channel_states

  -- A word that lands now.
  lands-now : (c i : ℕ) → c < sessions.count → IsOpenSession sessions c t
      → landed (server_at sessions c) (t + 1) ≤ i → i < landed (server_at sessions c) (t + 2)
      → slice_get after (first c + i) ≡ Some (t + 1)
  lands-now c i h going from upto =
      let has = served.own c h going in
      let channel_state = has.channel_state in
      let place = places c channel_state h going has.at in
      let lands = has.served.counted.landed_is in
      let brings_is = brought c channel_state h going has.at in
      let most = landed-most sessions ok c (t + 2) h in
      let within = placed.within c h in
      alone.own (channel c) channel_state (first c + i) has.at (
        opened sessions ok words c t channel_state has.served.of going,
        omega (arith, place, lands, from),
        omega (arith, place, brings_is, upto),
      ) (omega (arith, upto, most, within))

  -- One that landed before is left as it is.
  landed-before : (c i u : ℕ) → c < sessions.count → u < t
      → i < landed (server_at sessions c) (u + 2)
      → slice_get after (first c + i) ≡ slice_get landings (first c + i)
  landed-before c i u h early upto = alone.other (first c + i) (λ number channel_state at lands.
      let one = open-of sessions ok channel words t (t + 1) takes more channel_states served number
      channel_state at
      lands.0 in
      let d = one.session in
      let g = one.known in
      let there : slice_get channel_states (channel d) ≡ Some channel_state =
      ap (slice_get channel_states) one.place ∙ at in
      let place = places d channel_state g one.going there in
      let lands_is = one.serves.counted.landed_is in
      let brings_is = brought d channel_state g one.going there in
      let low = lands.1 in
      let high = lands.2 in
      let most = landed-most sessions ok d (t + 2) g in
      let most_own = landed-most sessions ok c (u + 2) h in
      let j = first c + i - first d in
      let sum : first c + i ≡ first d + j = omega (arith, low, place) in
      let small : j < landed (server_at sessions d) (t + 2) =
      omega (arith, sum, high, place, brings_is) in
      let same = placed.once c d i j h g (omega (arith, upto, most_own)) (omega (arith, small, most))
      sum in
      let own = ap first same in
      let server = server_at sessions c in
      let paths = paths-of sessions ok c h in
      let grown = sent-more server paths (u + 2 - server.shape.path_delay)
      (t + 1 - server.shape.path_delay) (omega (arith, early)) in
      let lands_same : landed server (t + 1) ≡ landed (server_at sessions d) (t + 1) =
      ap (λ n. landed (server_at sessions n) (t + 1)) same in
      omega (arith, low, place, lands_is, own, grown, lands_same, upto))

  pub notes-on : ((c i u : ℕ) → c < sessions.count → IsOpenSession sessions c u → u < t
      → landed (server_at sessions c) (u + 1) ≤ i → i < landed (server_at sessions c) (u + 2)
      → slice_get landings (first c + i) ≡ Some (u + 1))
      → (c i u : ℕ) → c < sessions.count → IsOpenSession sessions c u → u < t + 1
      → landed (server_at sessions c) (u + 1) ≤ i → i < landed (server_at sessions c) (u + 2)
      → slice_get after (first c + i) ≡ Some (u + 1)
  notes-on notes c i u h going before from upto = elim (cases_lt u t) [
    | inl early ↦ landed-before c i u h early upto ∙ notes c i u h going early from upto
    | inr now ↦
        let same : u ≡ t = omega (arith, before, now) in
        let server = server_at sessions c in
        let from_now : landed server (t + 1) ≤ i =
        subst (λ n. landed server (n + 1) ≤ i) same from in
        let upto_now : i < landed server (t + 2) =
        subst (λ n. i < landed server (n + 2)) same upto in
        lands-now c i h (subst (λ n. IsOpenSession sessions c n) same going) from_now upto_now
        ∙ ap (λ n. Some (n + 1)) (sym same)
  ]
