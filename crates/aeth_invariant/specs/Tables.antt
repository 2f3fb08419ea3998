-- Tables by which routers send flits on.
--
--   IsPassing, HasPassing      a session goes on from a wire to the next
--   AreEntries      tables that have the entries of just the sessions that are in them
--   GoesOnOnce      what a router holds from a wire goes on by one wire
--   passed_on      what a table sends on
-- Routers with slot tables: after Æthereal (2005). This form of them: this project's own.
use Rattle.std.proofs.Common.{◌≡◌, ◌<◌, ℕ, suc, ◌+◌, ◌%◌, true, Option, Some, option_map}
use Rattle.std.proofs.Common.{option_and_then}
use Rattle.aeth_clocked.specs.declared.flit.Flit.{Flit}
use Rattle.aeth_router.specs.Ports.{hopped}
use Rattle.aeth_invariant.specs.RoutedSessions.{AtRouter, RoutedSessions, IsPlace, IsInTables}
use Rattle.aeth_invariant.specs.RoutedSessions.{has_slot}

-- What is sent on where a wire is sent on from another: the flit that is held from there, behind
-- its hop.
abbrev pub passed_on : (ℕ → Option ℕ) → (ℕ → Option Flit) → ℕ → Option Flit
passed_on from held l = option_map hopped (option_and_then held (from l))

module _ (sessions : RoutedSessions) where
  -- In the slot of cycle t a session goes on from wire m to wire l, the next of its path.
  pub record IsPassing (t c i m l : ℕ) : Type 0 where
    pub known : c < sessions.count
    pub here : IsPlace sessions c i m
    pub next : IsPlace sessions c (suc i) l
    pub slot : ℕ
    pub uses : has_slot sessions c slot ≡ true
    pub time : (slot + suc i) % sessions.size ≡ t % sessions.size

  -- Some session that is in the tables does.
  pub record HasPassing (t m l : ℕ) : Type 0 where
    pub number : ℕ
    pub place : ℕ
    pub in_tables : IsInTables sessions number t
    pub passing : IsPassing t number place m l

  -- From which wire each wire that starts at a router is sent on in cycle t: just as the sessions
  -- go that are in the tables.
  pub record AreEntries (t : ℕ) (from : ℕ → Option ℕ) : Type 0 where
    pub all : (c i m l r : ℕ) → sessions.start l ≡ AtRouter r → IsInTables sessions c t
        → IsPassing t c i m l → from l ≡ Some m
    pub only : (m l r : ℕ) → sessions.start l ≡ AtRouter r → from l ≡ Some m → HasPassing t m l

  -- What a router holds from wire m goes on by one wire that starts there, and by no other.
  pub record GoesOnOnce (from : ℕ → Option ℕ) (m r : ℕ) : Type 0 where
    pub link : ℕ
    pub starts : sessions.start link ≡ AtRouter r
    pub entry : from link ≡ Some m
    pub alone : (l s : ℕ) → sessions.start l ≡ AtRouter s → from l ≡ Some m → l ≡ link
