-- Routed sessions: the wires of a chip, and the sessions that pass over them.
--
--   WireEnd      where a wire starts or ends
--   RoutedSession      a session: its flow, its sending end, its wires, and the cycles of its tables
--   RoutedSessions      a chip and the sessions over it
--   flow_at, server_at      the flow of a session, and its private server
--   IsPlace, has_slot      a wire of its path, and a slot of its own
--   Owns, IsOpenSession      the cycles in which it has its queues, and in which it is in use
--   IsInTables      the cycles in which tables of routers have it
--   IsSameQueue      two sessions whose sending ends are one queue
--
-- Tables of routers have a session from the finish of what the switch closes, while interfaces are still written to. It
-- is of these sessions that no two enter a wire in one slot; of those in use it follows. Each entry is one of such a
-- session: one that is left over could send another session's flit to a second port.
--
-- Slot tables that are written while the network runs: after Æthereal (2005). This form of them:
-- this project's own.
use Rattle.std.proofs.Common.{◌≡◌, ◌≤◌, ◌<◌, ℕ, Bool, List, Some, slice_get, ◌==◌}
use Rattle.std.specs.List.{list_any}
use Rattle.aeth_report.specs.Flows.{Flow}
use Rattle.aeth_server.specs.PrivateServer.{PrivateServer}

-- Where a wire starts or ends: at a router, at an interface, or at a stage, which goes by the
-- number of the wire that it reads.
pub data WireEnd : Type 0 where
  AtRouter : (router : ℕ) → WireEnd
  AtInterface : (interface : ℕ) → WireEnd
  AtStage : (wire : ℕ) → WireEnd

-- A session of a channel: its flow; the interface and the queue from which it sends; the wires
-- that it goes over, each link followed by its further wires, so that a place is an offset; and
-- how many routers a flit has passed by at each place.
--
-- Five are numbers of cycles after whose halts, finishes and writes something holds: 0 for what is
-- done before cycle 0, and e + 1 for what is done in cycle e. The queue is the session's from
-- `since` on, where the session before it on that queue finished. Its route is set at `set` and
-- cleared at `freed`, the entry of one of its slots is set at `slot_set` and cleared at
-- `slot_freed`. In cycle `entered` its use case is entered, once what the switch closes is
-- finished: tables of routers have the session from this cycle on.
pub record RoutedSession : Type 0 where
  pub flow : Flow
  pub ni : ℕ
  pub queue : ℕ
  pub wires : List ℕ
  pub routers_passed : ℕ → ℕ
  pub since : ℕ
  pub set : ℕ
  pub freed : ℕ
  pub slot_set : ℕ → ℕ
  pub slot_freed : ℕ → ℕ
  pub entered : ℕ

-- A chip: its table size, where each wire starts and ends, the port of a wire that leaves a
-- router, the wires that enter each router in order, and the wires that leave and enter each
-- interface. And the sessions by their numbers, with the number of the opposite channel's
-- session.
pub record RoutedSessions : Type 0 where
  pub size : ℕ
  pub start : ℕ → WireEnd
  pub end : ℕ → WireEnd
  pub port : ℕ → ℕ
  pub incoming : ℕ → List ℕ
  pub leaving : ℕ → ℕ
  pub entering : ℕ → ℕ
  pub count : ℕ
  pub routed_session : ℕ → RoutedSession
  pub opposite : ℕ → ℕ

module _ (sessions : RoutedSessions) where
  -- The flow of a session.
  abbrev pub flow_at : ℕ → Flow
  flow_at c = (sessions.routed_session c).flow

  -- Its private server.
  abbrev pub server_at : ℕ → PrivateServer
  server_at c = (flow_at c).server

  -- A wire stands at a place of a session's path.
  abbrev pub IsPlace : ℕ → ℕ → ℕ → Type 0
  IsPlace c i l = slice_get (sessions.routed_session c).wires i ≡ Some l

  -- Whether a slot is a session's own.
  abbrev pub has_slot : ℕ → ℕ → Bool
  has_slot c slot = list_any (λ own. slot == own) (server_at c).shape.slots

  -- A session has its queues, after the halts, finishes and writes of t cycles.
  pub record Owns (c t : ℕ) : Type 0 where
    pub since : (sessions.routed_session c).since ≤ t
    pub finish : t ≤ (server_at c).finish

  -- A session is in use in cycle t.
  pub record IsOpenSession (c t : ℕ) : Type 0 where
    pub goes : (server_at c).go ≤ t
    pub unfinished : t < (server_at c).finish

  -- Tables of routers have a session in cycle t: from when its use case is entered, until it
  -- finishes.
  pub record IsInTables (c t : ℕ) : Type 0 where
    pub since : (sessions.routed_session c).entered ≤ t
    pub unfinished : t < (server_at c).finish

  -- Two sessions send from one queue.
  pub record IsSameQueue (d c : ℕ) : Type 0 where
    pub ni : (sessions.routed_session d).ni ≡ (sessions.routed_session c).ni
    pub queue : (sessions.routed_session d).queue ≡ (sessions.routed_session c).queue
