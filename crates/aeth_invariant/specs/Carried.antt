-- What private servers say of the wires in a cycle.
--
--   words_from      so many values of a list, from a number on
--   IsOnWire      a wire has the flit that a session injected, at a place of its path
--   Comes, Exact      the flit of some session, and the wires have all of them and nothing else
--   IsPassed      a flit that a router holds goes on
-- This project's own.
use Rattle.std.proofs.Common.{◌≡◌, ◌<◌, ℕ, ◌+◌, IsTrue, List, take, drop, Option, Some}
use Rattle.aeth_clocked.specs.declared.flit.Flit.{Flit}
use Rattle.aeth_report.specs.Carries.{flit_at, injects}
use Rattle.aeth_header.specs.Header.{port_of}
use Rattle.aeth_invariant.specs.RoutedSessions.{AtRouter, RoutedSessions, IsPlace, flow_at}

-- So many values, from number `first` on.
abbrev pub words_from : List ℕ → ℕ → ℕ → List ℕ
words_from values first count = take count (drop first values)

module _ (sessions : RoutedSessions) where
  -- The flit of a session that was injected in cycle u, at place i of its path.
  abbrev pub flit_of : ℕ → ℕ → ℕ → Flit
  flit_of c i u = flit_at (flow_at sessions c) ((sessions.routed_session c).routers_passed i) u

  -- Wire l has in cycle t the flit that session c injected in cycle u, at place i of its path.
  pub record IsOnWire (l t c i u : ℕ) : Type 0 where
    pub known : c < sessions.count
    pub place : IsPlace sessions c i l
    pub time : u + i ≡ t
    pub injected : IsTrue (injects (flow_at sessions c) u)

  -- A flit is that of some session, injected in some cycle, and on the wire in cycle t.
  pub record Comes (l t : ℕ) (flit : Flit) : Type 0 where
    pub number : ℕ
    pub place : ℕ
    pub cycle : ℕ
    pub on : IsOnWire l t number place cycle
    pub is : flit ≡ flit_of number place cycle

  -- The wires have in cycle t what private servers say: such flits alone, and all of them.
  pub record Exact (t : ℕ) (wires : ℕ → Option Flit) : Type 0 where
    pub only : (l : ℕ) (flit : Flit) → wires l ≡ Some flit → Comes l t flit
    pub all : (l c i u : ℕ) → IsOnWire l t c i u → wires l ≡ Some (flit_of c i u)

  -- Of the flits that routers hold from the wires, that of wire m names a port of its router, and
  -- no other names that port there.
  pub record IsPassed (held : ℕ → Option Flit) (m r : ℕ) (flit : Flit) : Type 0 where
    pub link : ℕ
    pub starts : sessions.start link ≡ AtRouter r
    pub names : port_of flit.header ≡ sessions.port link
    pub alone : (n : ℕ) (contender : Flit) → sessions.end n ≡ AtRouter r
        → held n ≡ Some contender → port_of contender.header ≡ sessions.port link → n ≡ m
