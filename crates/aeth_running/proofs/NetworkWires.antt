-- What the wires and the receive queues of a network have, which runs on accepted inputs: the flits and
-- the words of the private servers.
use Rattle.std.proofs.Common.{◌≡◌, ◌≤◌, ◌<◌, ◌+◌, ◌-◌, ◌∙◌, ℕ, [], Option, Some, None, suc, refl}
use Rattle.std.proofs.Common.{sym, ap, arith}
use Rattle.std.specs.Option.{option_to_list}
use Rattle.aeth_clocked.specs.{Wires.flit_on, declared.flit.Flit.Flit}
use Rattle.aeth_components.specs.View.{queue_of}
use Rattle.aeth_server.specs.PrivateServer.{landed, taken}
use Rattle.aeth_invariant.specs.{Carried.Exact, Carried.words_from, Carries.carries}
use Rattle.aeth_invariant.specs.{RoutedSessions.Owns, RoutedSessions.flow_at}
use Rattle.aeth_invariant.specs.{RoutedSessions.server_at, Standing.Stands}
use Rattle.aeth_refinement.specs.View.{net_of}
use Rattle.aeth_accepted.specs.Inputs.{Inputs}
use Rattle.aeth_routed_sessions.specs.RoutedSessions.{routed_sessions_of}
use Rattle.aeth_running.specs.{Network.first_network, Network.played, Running.HoldsBefore}
use Rattle.aeth_running.specs.{Routing.Routing}

-- What lists nothing is nothing.
pub nothing-listed : {X : Type 0} (x : Option X) → option_to_list x ≡ [] → x ≡ None
nothing-listed None none = refl
nothing-listed (Some x) none = absurd (grind (arith, none))

module _ (inputs : Inputs) (routing : Routing)
    (running : (t : ℕ) → t ≤ inputs.cycles
    → HoldsBefore inputs t (played t (first_network inputs routing)).components) where
  -- Behind each cycle the wires have what the private servers sent in it.
  pub exact : (t : ℕ) → t < inputs.cycles
      → Exact (routed_sessions_of inputs) t
      (flit_on (played (t + 1) (first_network inputs routing)).components.wires)
  exact t early = (running (t + 1) (omega (arith, early))).runs.stands.held t (omega arith)

  -- Before the first they have nothing.
  pub nothing-first : (l : ℕ) → flit_on (played 0 (first_network inputs routing)).components.wires l ≡ None
  nothing-first l = (running 0 (omega arith)).runs.stands.held_none refl l

  -- So each wire has the one flit that the routed sessions carry there.
  pub carried :
      ((t : ℕ) (wires : ℕ → Option Flit) → Exact (routed_sessions_of inputs) t wires → (l : ℕ)
      → carries (routed_sessions_of inputs) l t ≡ option_to_list (wires l))
      → (l t : ℕ) → t < inputs.cycles
      → option_to_list (flit_on (played (t + 1) (first_network inputs routing)).components.wires l)
      ≡ carries (routed_sessions_of inputs) l t
  carried carry l t early =
      sym (carry t (flit_on (played (t + 1) (first_network inputs routing)).components.wires) (exact t early) l)

  -- The components stand as the private servers say.
  pub standing : (t : ℕ) (within : t ≤ inputs.cycles)
      → Stands (routed_sessions_of inputs) t t
      (net_of (running t within).enqueued (played t (first_network inputs routing)).components.parts
      (played t (first_network inputs routing)).components.wires)
  standing t within = (running t within).runs.stands

  -- A receive queue has the words that have landed and were not taken.
  pub received : (t : ℕ) → t ≤ inputs.cycles → (c : ℕ) → c < (routed_sessions_of inputs).count
      → Owns (routed_sessions_of inputs) c t
      → let d = (routed_sessions_of inputs).opposite c in
      (queue_of (played t (first_network inputs routing)).components.parts
      ((routed_sessions_of inputs).routed_session c).ni
      ((routed_sessions_of inputs).routed_session c).queue).received
      ≡ words_from (flow_at (routed_sessions_of inputs) d).values
      (taken (server_at (routed_sessions_of inputs) d) t)
      (landed (server_at (routed_sessions_of inputs) d) (t + 1)
      - taken (server_at (routed_sessions_of inputs) d) t)
  received t within c known own =
      let d = (routed_sessions_of inputs).opposite c in
      let next : suc t ≡ t + 1 = omega arith in
      (standing t within).received c known own
      ∙ ap (λ n. words_from (flow_at (routed_sessions_of inputs) d).values
      (taken (server_at (routed_sessions_of inputs) d) t)
      (landed (server_at (routed_sessions_of inputs) d) n
      - taken (server_at (routed_sessions_of inputs) d) t)) next
