-- Which sessions of a connection may inject a flit in a cycle.
-- This project's own.
use Rattle.std.proofs.Common.{◌≡◌, ◌≤◌, ◌<◌, ℕ, List, Contains, Some, slice_get}
use Rattle.aeth_report.specs.{Sessions.MayInject, declared.session.Session.Session}

-- A session by the grants of this group may inject a flit in a cycle.
pub record HasOpen (sessions : List Session) (group u : ℕ) : Type 0 where
  pub session : Session
  pub has : Contains sessions session
  pub group_is : session.group.0 ≡ group
  pub may : MayInject session u

-- Where a later session has gone, an earlier one may inject no more.
abbrev pub IsLastAlone : List Session → ℕ → Type 0
IsLastAlone sessions u = (j k : ℕ) (e s : Session) → slice_get sessions j ≡ Some e
    → slice_get sessions k ≡ Some s → j < k → s.go ≤ u → MayInject e u → ⊥
