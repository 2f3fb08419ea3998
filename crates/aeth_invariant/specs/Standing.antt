-- How the components stand, by the counts of the private servers.
-- This project's own.
use Rattle.std.proofs.Common.{◌≡◌, ◌≤◌, ◌<◌, ℕ, suc, ◌+◌, ◌-◌, true, false, Some, None}
use Rattle.aeth_ni.specs.Limits.{waiting_words}
use Rattle.aeth_server.specs.PrivateServer.{arrived, credited, landed, returned, sent, taken}
use Rattle.aeth_invariant.specs.RoutedSessions.{RoutedSessions, Owns, flow_at, server_at}
use Rattle.aeth_invariant.specs.WellRouted.{HasEntry}
use Rattle.aeth_invariant.specs.Carried.{Exact, words_from}
use Rattle.aeth_invariant.specs.Switches.{IsEntryAt, route_of}
use Rattle.aeth_invariant.specs.Components.{Net, queue_of}

module _ (sessions : RoutedSessions) where
  -- The session whose entry names a queue.
  pub record IsEntryOf (t n x queue : ℕ) : Type 0 where
    pub number : ℕ
    pub at : IsEntryAt sessions n x number
    pub queue_is : (sessions.routed_session number).queue ≡ queue
    pub has : HasEntry sessions number x t

  -- A session's route is written, and its queue isn't halted yet.
  pub record MaySend (c t : ℕ) : Type 0 where
    pub set : (sessions.routed_session c).set ≤ t
    pub stop : t ≤ (server_at sessions c).stop

  -- Its counter is its own.
  pub record HasCounter (c t : ℕ) : Type 0 where
    pub set : (sessions.routed_session c).set ≤ t
    pub finish : t ≤ (server_at sessions c).finish

  -- The components stand so, after the halts, finishes and writes of t cycles, and with the
  -- counts after k cycles. Before cycle k both are k; between its writes and its drive t is k +
  -- 1.
  --
  -- The queue from which a session sends has its words from those sent to those enqueued, the words
  -- of the opposite session from those taken to those landed, a counter of what the buffer and the
  -- credits let go, and the credits of the opposite session that are owed.
  pub record Stands (t k : ℕ) (net : Net) : Type 0 where
    pub entry_only : (n x queue : ℕ) → net.entry n x ≡ Some queue → IsEntryOf t n x queue
    pub entry_all : (c x : ℕ) → c < sessions.count → HasEntry sessions c x t
        → net.entry (sessions.routed_session c).ni x ≡ Some (sessions.routed_session c).queue
    pub route : (c : ℕ) → c < sessions.count → MaySend c t
        → (queue_of sessions net c).route ≡ Some (route_of (flow_at sessions c))
    pub running : (c : ℕ) → c < sessions.count → MaySend c t
        → (queue_of sessions net c).halted ≡ false
    pub halted : (c : ℕ) → c < sessions.count → (server_at sessions c).stop < t
        → t < (sessions.routed_session c).freed → (queue_of sessions net c).halted ≡ true
    pub none_enqueued : (c : ℕ) → c < sessions.count → t < (sessions.routed_session c).since
        → net.enqueued c ≡ 0
    pub enqueued_low : (c : ℕ) → c < sessions.count → Owns sessions c t
        → sent (server_at sessions c) k ≤ net.enqueued c
    pub enqueued_high : (c : ℕ) → c < sessions.count → Owns sessions c t
        → net.enqueued c ≤ sent (server_at sessions c) k + waiting_words
    pub enqueued_arrived : (c : ℕ) → c < sessions.count → Owns sessions c t
        → net.enqueued c ≤ arrived (server_at sessions c) (suc k)
    pub waiting : (c : ℕ) → c < sessions.count → Owns sessions c t
        → (queue_of sessions net c).waiting ≡ words_from (flow_at sessions c).values
        (sent (server_at sessions c) k) (net.enqueued c - sent (server_at sessions c) k)
    pub received : (c : ℕ) → c < sessions.count → Owns sessions c t
        → let d = sessions.opposite c in
        (queue_of sessions net c).received ≡ words_from (flow_at sessions d).values
        (taken (server_at sessions d) k)
        (landed (server_at sessions d) (suc k) - taken (server_at sessions d) k)
    pub counter : (c : ℕ) → c < sessions.count → HasCounter c t
        → (queue_of sessions net c).counter + sent (server_at sessions c) k
        ≡ (server_at sessions c).buffer + returned (server_at sessions c) (suc k)
    pub owed : (c : ℕ) → c < sessions.count → Owns sessions c t
        → let d = sessions.opposite c in
        (queue_of sessions net c).owed + credited (server_at sessions d) k
        ≡ taken (server_at sessions d) k
    pub room : (c : ℕ) → c < sessions.count
        → (server_at sessions (sessions.opposite c)).buffer ≤ (queue_of sessions net c).room
    pub held : (v : ℕ) → suc v ≡ k → Exact sessions v net.held
    pub held_none : k ≡ 0 → (l : ℕ) → net.held l ≡ None
