-- Of a network that runs on accepted inputs each flit goes on at a router, and each receive queue has its words.
use Rattle.std.proofs.Common.{◌≡◌, ◌≤◌, ◌<◌, ◌+◌, ◌∙◌, ℕ, zero, suc, Option, Some, sym, ap, arith}
use Rattle.std.proofs.Common.{length, subst}
use Rattle.aeth_clocked.specs.{Wires.flit_on, declared.flit.Flit.Flit}
use Rattle.aeth_components.specs.View.{queue_of}
use Rattle.aeth_router.specs.Ports.{hopped}
use Rattle.aeth_invariant.specs.WellRouted.{AreWellRouted}
use Rattle.aeth_invariant.specs.Carried.{Exact}
use Rattle.aeth_invariant.specs.RoutedSessions.{AtRouter, RoutedSessions, Owns, server_at}
use Rattle.aeth_invariant.proofs.Routers.{behind, goes_past, not_both, to_router}
use Rattle.aeth_invariant.proofs.Routes.{routers_passed-on}
use Rattle.aeth_accepted.specs.Inputs.{Inputs}
use Rattle.aeth_routed_sessions.specs.RoutedSessions.{routed_sessions_of}
use Rattle.aeth_running.specs.{Lossless.HasGoneOn, Lossless.LosesNothing, Network.first_network}
use Rattle.aeth_running.specs.{Network.played, Routing.Routing, Running.HoldsBefore}
use Rattle.aeth_running.proofs.NetworkWires.{exact, nothing-first, received, standing}

-- Where wires are exact in two cycles, a flit that came to a router in the first goes on in the second.
module _ (sessions : RoutedSessions) (ok : AreWellRouted sessions) (t : ℕ) (held : ℕ → Option Flit)
    (before : Exact sessions t held) (m r : ℕ) (flit : Flit) (ends : sessions.end m ≡ AtRouter r)
    (has : held m ≡ Some flit) where
  pub gone-on : (wire : ℕ → Option Flit) → Exact sessions (suc t) wire
      → (n : ℕ) × (sessions.start n ≡ AtRouter r) × (wire n ≡ Some (hopped flit))
  gone-on wire after =
      let comes = before.only m flit has in
      let c = comes.number in
      let i = comes.place in
      let on = comes.on in
      let next = goes_past sessions ok c i m on.known on.place
      (not_both r (sessions.routed_session (sessions.opposite c)).ni (sessions.end m) ends) in
      let through = to_router sessions ok c i m next.0 r on.known on.place next.1 ends in (
        next.0,
        through.1,
        after.all next.0 c (suc i) comes.cycle
            (behind sessions ok m next.0 t c i comes.cycle on next.1)
            ∙ ap (λ (flit : Flit). Some flit)
            (sym (ap hopped comes.is
            ∙ routers_passed-on sessions ok c i m next.0 comes.cycle on.known through.0)),
      )

module _ (inputs : Inputs) (ok : AreWellRouted (routed_sessions_of inputs)) (routing : Routing)
    (running : (t : ℕ) → t ≤ inputs.cycles
    → HoldsBefore inputs t (played t (first_network inputs routing)).components) where
  -- So in each cycle of a network.
  routers-send : (t : ℕ) → t < inputs.cycles → (m r : ℕ) (flit : Flit)
      → (routed_sessions_of inputs).end m ≡ AtRouter r
      → flit_on (played t (first_network inputs routing)).components.wires m ≡ Some flit
      → HasGoneOn (routed_sessions_of inputs) r flit
      (played (t + 1) (first_network inputs routing)).components.wires
  routers-send zero early m r flit ends has =
      absurd (cc (sym (nothing-first inputs routing running m) ∙ has))
  routers-send (suc t) early m r flit ends has =
      let first = first_network inputs routing in
      let same : t + 1 ≡ suc t = omega arith in
      let on = gone-on (routed_sessions_of inputs) ok t
      (flit_on (played (t + 1) first).components.wires)
      (exact inputs routing running t (omega (arith, early))) m r flit ends
      (subst (λ n. flit_on (played n first).components.wires m ≡ Some flit) (sym same) has)
      (flit_on (played (suc t + 1) first).components.wires)
      (exact inputs routing running (suc t) early) in
      record { wire = on.0; starts = on.1; has = on.2 }

  pub loses-nothing : (t : ℕ) → t < inputs.cycles
      → ((c : ℕ) → c < (routed_sessions_of inputs).count
      → Owns (routed_sessions_of inputs) c (t + 1)
      → length (queue_of (played (t + 1) (first_network inputs routing)).components.parts
      ((routed_sessions_of inputs).routed_session c).ni
      ((routed_sessions_of inputs).routed_session c).queue).received
      ≤ (server_at (routed_sessions_of inputs) ((routed_sessions_of inputs).opposite c)).buffer)
      → LosesNothing inputs (t + 1) (played t (first_network inputs routing)).components
      (played (t + 1) (first_network inputs routing)).components
  loses-nothing t early buffer = record {
    routers = routers-send t early;
    queues = λ c known owns. record {
      words = received inputs routing running (t + 1) (omega (arith, early)) c known owns;
      within = buffer c known owns;
      room = (standing inputs routing running (t + 1) (omega (arith, early))).room c known;
    };
  }
