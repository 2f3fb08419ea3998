-- What an accepted plan on a chip gives to the sessions of a run.
--
--   IsRouterPlace, IsStagePlace      how a path goes on from a place
--   HasPath      a session's path
--   IsAnswered      its opposite session
--   IsGiven      what its private server and its flits are given
--   HasOrderedCycles      the order of its cycles
--   AreContentionFree      what no two sessions share
--   IsWired      the wires of a chip
--   AreWellRouted      all of these
-- This project's own.
use Rattle.std.proofs.Common.{◌≡◌, ◌≤◌, ◌<◌, ℕ, suc, ◌+◌, ◌*◌, ◌/◌, ◌%◌, ◌^◌, true, length, Some}
use Rattle.std.proofs.Common.{slice_get, ◌⊎◌}
use Rattle.aeth_header.specs.Layout.{port_bits}
use Rattle.aeth_ni.specs.Limits.{max_count}
use Rattle.aeth_report.specs.Carries.{IsSendable}
use Rattle.aeth_server.specs.PrivateServer.{accepted}
use Rattle.aeth_invariant.specs.RoutedSessions.{AtInterface, AtRouter, AtStage, RoutedSessions}
use Rattle.aeth_invariant.specs.RoutedSessions.{IsPlace, IsInTables, IsSameQueue, Owns, flow_at}
use Rattle.aeth_invariant.specs.RoutedSessions.{has_slot, server_at}

module _ (sessions : RoutedSessions) where
  -- A path goes from wire l at place i through a router to wire m, whose port the route names
  -- there.
  pub record IsRouterPlace (c i l m : ℕ) : Type 0 where
    pub router : ℕ
    pub ends : sessions.end l ≡ AtRouter router
    pub starts : sessions.start m ≡ AtRouter router
    pub routers_passed : (sessions.routed_session c).routers_passed (suc i)
        ≡ (sessions.routed_session c).routers_passed i + 1
    pub names : (flow_at sessions c).route / 2
        ^ (port_bits * (sessions.routed_session c).routers_passed i)
        % 2 ^ port_bits ≡ sessions.port m

  -- It goes from wire l at place i through a stage to wire m.
  pub record IsStagePlace (c i l m : ℕ) : Type 0 where
    pub ends : sessions.end l ≡ AtStage l
    pub starts : sessions.start m ≡ AtStage l
    pub routers_passed : (sessions.routed_session c).routers_passed (suc i)
        ≡ (sessions.routed_session c).routers_passed i

  -- A path begins at its sender, goes through routers and stages, and ends at its receiver.
  pub record HasPath (c : ℕ) : Type 0 where
    pub first : ℕ
    pub at : IsPlace sessions c 0 first
    pub starts : sessions.start first ≡ AtInterface (sessions.routed_session c).ni
    pub none_passed : (sessions.routed_session c).routers_passed 0 ≡ 0
    pub inner : (i l m : ℕ) → IsPlace sessions c i l → IsPlace sessions c (suc i) m
        → IsRouterPlace c i l m ⊎ IsStagePlace c i l m
    pub last : (i l : ℕ) → IsPlace sessions c i l → suc i ≡ length (sessions.routed_session c).wires
        → sessions.end l ≡ AtInterface (sessions.routed_session (sessions.opposite c)).ni

  -- The opposite session sends from the queue at which this one lands, brings its credits, and
  -- has its cycles.
  pub record IsAnswered (c : ℕ) : Type 0 where
    pub known : sessions.opposite c < sessions.count
    pub back : sessions.opposite (sessions.opposite c) ≡ c
    pub remote : (flow_at sessions c).remote ≡ (sessions.routed_session (sessions.opposite c)).queue
    pub server : (flow_at sessions c).back ≡ server_at sessions (sessions.opposite c)
    pub slots : (server_at sessions c).shape.back_slots
        ≡ (server_at sessions (sessions.opposite c)).shape.slots
    pub delay : (server_at sessions c).shape.back_path_delay
        ≡ (server_at sessions (sessions.opposite c)).shape.path_delay
    pub since : (sessions.routed_session (sessions.opposite c)).since
        ≡ (sessions.routed_session c).since
    pub go : (server_at sessions (sessions.opposite c)).go ≡ (server_at sessions c).go
    pub stop : (server_at sessions (sessions.opposite c)).stop ≡ (server_at sessions c).stop
    pub finish : (server_at sessions (sessions.opposite c)).finish ≡ (server_at sessions c).finish

  -- A session's flits fit their headers, its slots are of the chip's table, its path delay is the
  -- number of its wires, there is a value for each word that it accepts, its buffer is a count of
  -- credits, and what it has sent has landed when it finishes.
  pub record IsGiven (c : ℕ) : Type 0 where
    pub sendable : IsSendable (flow_at sessions c)
    pub size : (server_at sessions c).shape.size ≡ sessions.size
    pub delay : (server_at sessions c).shape.path_delay ≡ length (sessions.routed_session c).wires
    pub values : length (accepted (server_at sessions c)) ≡ length (flow_at sessions c).values
    pub buffer : (server_at sessions c).buffer ≤ max_count
    pub drained : (server_at sessions c).stop + length (sessions.routed_session c).wires
        ≤ (server_at sessions c).finish

  -- The order of a session's cycles. Its queue is free from the start, or from the finish of
  -- another session on. Its use case is entered before it goes.
  pub record HasOrderedCycles (c : ℕ) : Type 0 where
    pub set_since : (sessions.routed_session c).since ≤ (sessions.routed_session c).set
    pub set_go : (sessions.routed_session c).set ≤ (server_at sessions c).go
    pub entered_go : (sessions.routed_session c).entered ≤ (server_at sessions c).go
    pub set_stop : (sessions.routed_session c).set ≤ (server_at sessions c).stop
    pub stop_freed : (server_at sessions c).stop < (sessions.routed_session c).freed
    pub slot_after : (x : ℕ) → has_slot sessions c x ≡ true
        → (sessions.routed_session c).set ≤ (sessions.routed_session c).slot_set x
    pub slot_before : (x : ℕ) → has_slot sessions c x ≡ true
        → (sessions.routed_session c).slot_set x ≤ (server_at sessions c).go
    pub slot_stop : (x : ℕ) → has_slot sessions c x ≡ true
        → (server_at sessions c).stop < (sessions.routed_session c).slot_freed x
    pub slot_lasts : (x : ℕ) → has_slot sessions c x ≡ true
        → (sessions.routed_session c).slot_set x < (sessions.routed_session c).slot_freed x
    pub slot_freed : (x : ℕ) → has_slot sessions c x ≡ true
        → (sessions.routed_session c).slot_freed x ≤ (sessions.routed_session c).freed
    pub follows : ((sessions.routed_session c).since ≡ 0)
        ⊎ ((d : ℕ) × (d < sessions.count)
        × (suc (server_at sessions d).finish ≡ (sessions.routed_session c).since)
        × IsSameQueue sessions d c)

  -- The route of a session is written, after the halts, finishes and writes of t cycles.
  pub record HasRoute (c t : ℕ) : Type 0 where
    pub set : (sessions.routed_session c).set ≤ t
    pub freed : t < (sessions.routed_session c).freed

  -- So is its entry of a slot.
  pub record HasEntry (c x t : ℕ) : Type 0 where
    pub uses : has_slot sessions c x ≡ true
    pub set : (sessions.routed_session c).slot_set x ≤ t
    pub freed : t < (sessions.routed_session c).slot_freed x

  -- Two sessions that are in the tables in one cycle, as those in use are, enter no wire in one
  -- slot, and no path has a wire twice. A queue is one session's at a time, and so are its route
  -- and a slot's entry.
  pub record AreContentionFree (c d : ℕ) : Type 0 where
    pub wire : (i j l x y t : ℕ) → IsInTables sessions c t → IsInTables sessions d t
        → IsPlace sessions c i l → IsPlace sessions d j l → has_slot sessions c x ≡ true
        → has_slot sessions d y ≡ true → (x + i) % sessions.size ≡ (y + j) % sessions.size
        → (c ≡ d) × (i ≡ j)
    pub queue : (t : ℕ) → Owns sessions c t → Owns sessions d t → IsSameQueue sessions c d → c ≡ d
    pub route : (t : ℕ) → HasRoute c t → HasRoute d t → IsSameQueue sessions c d → c ≡ d
    pub entry : (x t : ℕ) → HasEntry c x t → HasEntry d x t
        → (sessions.routed_session c).ni ≡ (sessions.routed_session d).ni → c ≡ d

  -- One wire leaves and one enters an interface, a port of a router has one wire, the wires that
  -- enter a router are listed once each, and a stage stands between two wires.
  pub record IsWired : Type 0 where
    pub leaves : (l n : ℕ) → sessions.start l ≡ AtInterface n → l ≡ sessions.leaving n
    pub enters : (l n : ℕ) → sessions.end l ≡ AtInterface n → l ≡ sessions.entering n
    pub ports : (l m r : ℕ) → sessions.start l ≡ AtRouter r → sessions.start m ≡ AtRouter r
        → sessions.port l ≡ sessions.port m → l ≡ m
    pub reaches : (l r : ℕ) → sessions.end l ≡ AtRouter r
        → (k : ℕ) × (slice_get (sessions.incoming r) k ≡ Some l)
    pub ends : (k l r : ℕ) → slice_get (sessions.incoming r) k ≡ Some l
        → sessions.end l ≡ AtRouter r
    pub once : (j k l r : ℕ) → slice_get (sessions.incoming r) j ≡ Some l
        → slice_get (sessions.incoming r) k ≡ Some l → j ≡ k
    pub stage_reads : (m l : ℕ) → sessions.start m ≡ AtStage l → sessions.end l ≡ AtStage l
    pub stage_once : (m n l : ℕ) → sessions.start m ≡ AtStage l → sessions.start n ≡ AtStage l
        → m ≡ n

  -- What a run rests on.
  pub record AreWellRouted : Type 0 where
    pub path : (c : ℕ) → c < sessions.count → HasPath c
    pub answered : (c : ℕ) → c < sessions.count → IsAnswered c
    pub given : (c : ℕ) → c < sessions.count → IsGiven c
    pub ordered : (c : ℕ) → c < sessions.count → HasOrderedCycles c
    pub apart : (c d : ℕ) → c < sessions.count → d < sessions.count → AreContentionFree c d
    pub wired : IsWired
