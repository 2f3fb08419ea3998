-- Whole runs, by induction on the cycle.
use Rattle.std.proofs.Common.{◌≡◌, ◌≤◌, ◌<◌, ◌∙◌, ℕ, zero, suc, ◌+◌, ◌-◌, ◌++◌, min, length, Option}
use Rattle.std.proofs.Common.{refl, ap, subst, arith}
use Rattle.aeth_clocked.specs.declared.flit.Flit.{Flit}
use Rattle.aeth_ni.specs.Component.{arrival_of}
use Rattle.aeth_server.specs.PrivateServer.{landed, pull_at, returned, sent, taken}
use Rattle.aeth_server.proofs.PrivateServerLemmas.{counts-none}
use Rattle.aeth_invariant.specs.{WellRouted.AreWellRouted, Carried.Exact, Switches.Switched}
use Rattle.aeth_invariant.specs.{Cycle.NetCycle, Components.Net, Components.after}
use Rattle.aeth_invariant.specs.{Components.driven, Components.queue_of, Components.words_for}
use Rattle.aeth_invariant.specs.{RoutedSessions.RoutedSessions, RoutedSessions.Owns}
use Rattle.aeth_invariant.specs.{RoutedSessions.flow_at, RoutedSessions.server_at, Runs.Begins}
use Rattle.aeth_invariant.specs.{Runs.History, Standing.Stands}
use Rattle.aeth_invariant.proofs.{Counts.returned-sent, Counts.room-next, Interfaces.wires-exact}
use Rattle.aeth_invariant.proofs.{Owning.exact-same, Owning.received-length, Ready.enough}
use Rattle.aeth_invariant.proofs.{Ready.ready, Step.received-whole, Step.stands-next}
use Rattle.aeth_invariant.proofs.{Step.taken-same, Switching.switched, Unique.known-back}
use Rattle.aeth_invariant.proofs.{Unique.paths-of, Words.same_words}

module _ (sessions : RoutedSessions) (ok : AreWellRouted sessions) where
  -- What one cycle leads to: exact wires, components that stand, receive queues that keep all
  -- that comes, and takes that are those of the private servers.
  pub record IsStep (t : ℕ) (old : Net) (wires : ℕ → Option Flit) (new : Net)
      (cycle : NetCycle sessions t old wires new) : Type 0 where
    pub exact : Exact sessions t wires
    pub stands : Stands sessions (suc t) (suc t) new
    pub whole : (c : ℕ) → c < sessions.count → Owns sessions c (suc t)
        → (queue_of sessions new c).received ≡ (queue_of sessions cycle.pulled c).received
        ++ words_for (sessions.routed_session c).queue
        (arrival_of (wires (sessions.entering (sessions.routed_session c).ni)))
    pub takes : (c : ℕ) → c < sessions.count → Owns sessions c (suc t)
        → let server = server_at sessions (sessions.opposite c) in
        taken server (suc t) ≡ taken server t
        + min (pull_at server t)
        (length (queue_of sessions (after sessions cycle.ready t) c).received)

  -- One cycle leads from the private servers' counts before it to those after it, and its wires
  -- are what they say.
  pub step : (t : ℕ) (old new : Net) (wires : ℕ → Option Flit) → Stands sessions t t old
      → (cycle : NetCycle sessions t old wires new) → IsStep t old wires new cycle
  step t old new wires at cycle =
      let next : t + 1 ≡ suc t = omega arith in
      let change = subst (λ n. Switched sessions n old cycle.tables) next cycle.switched in
      let tables = switched sessions ok t old cycle.tables at change in
      let stands = ready sessions ok t cycle.tables cycle.ready tables cycle.refilled in
      let some = enough sessions ok t cycle.tables cycle.ready tables cycle.refilled in
      let exact = exact-same sessions t (driven sessions cycle.ready t) wires cycle.drives
      (wires-exact sessions ok t cycle.ready stands some) in
      record {
        exact = exact;
        stands = stands-next sessions ok t cycle.ready cycle.pulled new wires stands some cycle.took
            exact cycle.latched cycle.enqueued;
        whole = received-whole sessions ok t cycle.ready cycle.pulled new wires stands some
            cycle.took exact cycle.latched cycle.enqueued;
        takes = taken-same sessions ok t cycle.ready cycle.pulled new wires stands some cycle.took
            exact cycle.latched cycle.enqueued;
      }

  -- Nothing has landed by the end of cycle 0, and nothing has returned.
  landed-first : (c : ℕ) → c < sessions.count → landed (server_at sessions c) 1 ≡ 0
  landed-first c h =
      let server = server_at sessions c in
      let paths = paths-of sessions ok c h in
      let some = paths.path in
      let first : 1 - server.shape.path_delay ≡ 0 = omega (arith, some) in
      ap (sent server) first ∙ (counts-none server).sent

  returned-first : (c : ℕ) → c < sessions.count → returned (server_at sessions c) 1 ≡ 0
  returned-first c h =
      let server = server_at sessions c in
      let few = returned-sent server (paths-of sessions ok c h) 0 in
      omega (arith, few, (counts-none server).sent)

  -- Before cycle 0 all counts are 0, and so stand the components.
  pub begun : (net : Net) → Begins sessions net → Stands sessions 0 0 net
  begun net begins =
      record {
        entry_only = λ n x queue is.
            let now = begins.entry_only n x queue is in
            let order = (ok.ordered now.number now.at.known).slot_lasts x now.at.uses in
            let falls = now.falls in
            record {
              number = now.number;
              at = now.at;
              queue_is = now.queue_is;
              has = record {
                uses = now.at.uses;
                set = omega (arith, falls);
                freed = omega (arith, falls, order);
              };
            };
        entry_all = λ c x h has.
            let set = has.set in
            begins.entry_all (sessions.routed_session c).ni x c
            (record { known = h; uses = has.uses; ni = refl }) (omega (arith, set));
        route = λ c h run. let set = run.set in begins.route c h (omega (arith, set));
        running = λ c h run. begins.halted c h;
        halted = λ c h stop freed. absurd (omega (arith, stop));
        none_enqueued = λ c h soon. begins.enqueued c h;
        enqueued_low = λ c h own. omega (arith, (counts-none (server_at sessions c)).sent);
        enqueued_high = λ c h own. omega (arith, begins.enqueued c h);
        enqueued_arrived = λ c h own. omega (arith, begins.enqueued c h);
        waiting = λ c h own.
            let gone = sent (server_at sessions c) 0 in
            begins.waiting c h
            ∙ same_words (flow_at sessions c).values gone 0 gone (net.enqueued c - gone) refl
            (omega (arith, begins.enqueued c h));
        received = λ c h own.
            let d = sessions.opposite c in
            let g = known-back sessions ok c h in
            let server = server_at sessions d in
            let gone = taken server 0 in
            begins.received c h
            ∙ same_words (flow_at sessions d).values gone 0 gone (landed server 1 - gone) refl
            (omega (arith, landed-first d g));
        counter = λ c h has.
            let set = has.set in
            let counter = begins.counter c h (omega (arith, set)) in
            omega (arith, counter, (counts-none (server_at sessions c)).sent, returned-first c h);
        owed = λ c h own.
            let none = counts-none (server_at sessions (sessions.opposite c)) in
            omega (arith, begins.owed c h, none.taken, none.credited);
        room = begins.room;
        held = λ v is. absurd (omega (arith, is));
        held_none = λ is. begins.held;
      }

  module _ (nets : ℕ → Net) (wires : ℕ → ℕ → Option Flit) (run : History sessions nets wires) where
    -- A cycle of the run.
    cycle-at : (t : ℕ) → NetCycle sessions t (nets t) (wires t) (nets (suc t))
    cycle-at t =
        let next : t + 1 ≡ suc t = omega arith in
        subst (λ n. NetCycle sessions t (nets t) (wires t) (nets n)) next (run.goes t)

    -- Before each cycle the components stand as the private servers say.
    pub always : (t : ℕ) → Stands sessions t t (nets t)
    always zero = begun (nets 0) run.begins
    always (suc t) = (step t (nets t) (nets (suc t)) (wires t) (always t) (cycle-at t)).stands

    -- The wires of each cycle are what they say.
    pub exact : (t : ℕ) → Exact sessions t (wires t)
    exact t = (step t (nets t) (nets (suc t)) (wires t) (always t) (cycle-at t)).exact

  module _ (t : ℕ) (net : Net) (at : Stands sessions t t net) where
    -- What a receive queue holds has landed and wasn't taken, and is no more than the buffer.
    pub within-buffer : (c : ℕ) → c < sessions.count → Owns sessions c t
        → length (queue_of sessions net c).received
        ≤ (server_at sessions (sessions.opposite c)).buffer
    within-buffer c h own =
        let d = sessions.opposite c in
        let some = received-length sessions ok t t net at c h own in
        let room =
        room-next (server_at sessions d) (paths-of sessions ok d (known-back sessions ok c h)) t in
        omega (arith, some, room)
