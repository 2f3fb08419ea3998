-- No event of another session falls on a queue while it is a session's own.
use Rattle.std.proofs.Common.{◌≡◌, ◌≢◌, ◌≤◌, ◌<◌, ◌∙◌, ◌⊎◌, ℕ, suc, sym, ap, arith, inl, inr}
use Rattle.std.proofs.lemmas.Bool.{cases_eq, cases_lt}
use Rattle.aeth_invariant.specs.WellRouted.{HasRoute, AreWellRouted}
use Rattle.aeth_invariant.specs.Switches.{HasEvent, finish_of, freed_of, halt_of, set_of}
use Rattle.aeth_invariant.specs.Components.{Net, queue_of}
use Rattle.aeth_invariant.specs.RoutedSessions.{RoutedSessions, IsSameQueue, Owns, server_at}
use Rattle.aeth_invariant.proofs.Unique.{some-wires}

-- One queue has one state.
pub same-queue : (sessions : RoutedSessions) (net : Net) (d c : ℕ) → IsSameQueue sessions d c
    → queue_of sessions net d ≡ queue_of sessions net c
same-queue sessions net d c same =
    ap (λ n. net.queue n (sessions.routed_session d).queue) same.ni
    ∙ ap (λ q. net.queue (sessions.routed_session c).ni q) same.queue

module _ (sessions : RoutedSessions) (ok : AreWellRouted sessions) where
  -- A session lasts for some cycles: from the write of its route to its stop, its finish and its
  -- clear.
  pub record Lasts (c : ℕ) : Type 0 where
    pub since : (sessions.routed_session c).since ≤ (sessions.routed_session c).set
    pub go : (sessions.routed_session c).set ≤ (server_at sessions c).go
    pub set : (sessions.routed_session c).set ≤ (server_at sessions c).stop
    pub finish : (server_at sessions c).stop < (server_at sessions c).finish
    pub freed : (server_at sessions c).stop < (sessions.routed_session c).freed

  pub lasts : (c : ℕ) → c < sessions.count → Lasts c
  lasts c h =
      let order = ok.ordered c h in
      let some = some-wires sessions ok c h in
      let drained = (ok.given c h).drained in
      record {
        since = order.set_since;
        go = order.set_go;
        set = order.set_stop;
        finish = omega arith;
        freed = order.stop_freed;
      }

  module _ (t : ℕ) where
    -- No session finishes on a queue that was and stays a session's own.
    pub no-finish : (c : ℕ) → c < sessions.count → (sessions.routed_session c).since ≤ t
        → suc t ≤ (server_at sessions c).finish → HasEvent sessions (finish_of sessions) (suc t) c
        → ⊥
    no-finish c h since finish event =
        let d = event.number in
        let g = event.known in
        let falls = event.falls in
        let last = lasts d g in
        elim (cases_lt t (sessions.routed_session d).since) [
          | inr from ↦
              let one = (ok.apart d c g h).queue t (record { since = from; finish = omega arith })
              (record { since = since; finish = omega arith }) event.same in
              let same = ap (λ n. (server_at sessions n).finish) one in
              omega (arith, same, falls, finish)
          | inl soon ↦ omega (arith, soon, last.since, last.set, last.finish, falls)
        ]

    -- No route is set on it while its session has one.
    pub no-set : (c : ℕ) → c < sessions.count → (sessions.routed_session c).set ≤ t
        → suc t ≤ (server_at sessions c).finish → HasEvent sessions (set_of sessions) (suc t) c → ⊥
    no-set c h set finish event =
        let d = event.number in
        let g = event.known in
        let falls = event.falls in
        let last = lasts d g in
        let since = (lasts c h).since in
        let one = (ok.apart d c g h).queue (suc t)
        (record {
          since = omega (arith, last.since, falls);
          finish = omega (arith, last.set, last.finish, falls);
        })
        (record { since = omega (arith, since, set); finish = finish }) event.same in
        let same = ap (λ n. (sessions.routed_session n).set) one in
        omega (arith, same, falls, set)

    -- No other session stops on a queue whose route is written.
    pub no-stop : (c : ℕ) → c < sessions.count → HasRoute sessions c t
        → (server_at sessions c).stop ≢ t → HasEvent sessions (halt_of sessions) (suc t) c → ⊥
    no-stop c h has other event =
        let d = event.number in
        let g = event.known in
        let falls = event.falls in
        let last = lasts d g in
        let one = (ok.apart d c g h).route t
        (record {
          set = omega (arith, last.set, falls);
          freed = omega (arith, last.freed, falls);
        }) has
        event.same in
        let now : (server_at sessions d).stop ≡ t = omega (arith, falls) in
        other (ap (λ n. (server_at sessions n).stop) (sym one) ∙ now)

    -- No route is set over a route.
    pub no-set-route : (c : ℕ) → c < sessions.count → (sessions.routed_session c).set ≤ t
        → suc t < (sessions.routed_session c).freed → HasEvent sessions (set_of sessions) (suc t) c
        → ⊥
    no-set-route c h set freed event =
        let d = event.number in
        let g = event.known in
        let falls = event.falls in
        let last = lasts d g in
        let one = (ok.apart d c g h).route (suc t)
        (record { set = omega (arith, falls); freed = omega (arith, last.set, last.freed, falls) })
        (record { set = omega (arith, set); freed = freed }) event.same in
        let same = ap (λ n. (sessions.routed_session n).set) one in
        omega (arith, same, falls, set)

    -- No other route is cleared there.
    pub no-freed : (c : ℕ) → c < sessions.count → (sessions.routed_session c).set ≤ t
        → suc t < (sessions.routed_session c).freed
        → HasEvent sessions (freed_of sessions) (suc t) c → ⊥
    no-freed c h set freed event =
        let d = event.number in
        let g = event.known in
        let falls = event.falls in
        let last = lasts d g in
        let one = (ok.apart d c g h).route t
        (record { set = omega (arith, last.set, last.freed, falls); freed = omega (arith, falls) })
        (record { set = set; freed = omega (arith, freed) }) event.same in
        let same = ap (λ n. (sessions.routed_session n).freed) one in
        omega (arith, same, falls, freed)

    -- Where a session's queue becomes its own, the one before it has just finished.
    pub just-finished : (c : ℕ) → c < sessions.count → (sessions.routed_session c).since ≡ suc t
        → HasEvent sessions (finish_of sessions) (suc t) c
    just-finished c h is = elim (ok.ordered c h).follows [
      | inl none ↦ absurd (omega (arith, none, is))
      | inr (d, g, falls, same) ↦
          record { number = d; known = g; falls = falls ∙ is; same = same }
    ]

    -- A session's queue was its own already, or becomes so now.
    pub own-since : (c : ℕ) → Owns sessions c (suc t)
        → Owns sessions c t ⊎ ((sessions.routed_session c).since ≡ suc t)
    own-since c own =
        let since = own.since in
        let finish = own.finish in
        elim (cases_eq (sessions.routed_session c).since (suc t)) [
          | inl now ↦ inr now
          | inr other ↦ inl (record { since = omega arith; finish = omega arith })
        ]
