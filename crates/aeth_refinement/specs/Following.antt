-- Components that follow the private servers of routed sessions.
-- This project's own.
use Rattle.std.proofs.Common.{ℕ, ◌+◌, length}
use Rattle.aeth_components.specs.Components.{ComponentsState, wirings_of}
use Rattle.aeth_components.specs.Wirings.{IsWired}
use Rattle.aeth_invariant.specs.{RoutedSessions.RoutedSessions, Standing.Stands}
use Rattle.aeth_refinement.specs.{WiredFor.IsWiredFor, Routed.AreRoutedBy, Served.AreServed}
use Rattle.aeth_refinement.specs.{View.HaveLatched, View.net_of}

-- The components are those of routed sessions, each holds what its last wires had, they stand as
-- the private servers say, and each channel in use in cycle t is that of a session, with the counts
-- after k cycles. Tables of routers have the sessions of cycle t. Before the cycle, once tables are
-- entered and sessions that go are loaded, k is t; behind it k is t + 1.
pub record Follows (sessions : RoutedSessions) (channel : ℕ → ℕ) (t k : ℕ) (enqueued : ℕ → ℕ)
    (all : ComponentsState) : Type 0 where
  pub wired : IsWired (wirings_of all) (length all.wires)
  pub wired_for : IsWiredFor sessions (wirings_of all) (length all.wires)
  pub latched : HaveLatched all.parts all.wires
  pub routed : AreRoutedBy sessions t all.parts
  pub served : AreServed sessions channel all.words t (k + 1) k enqueued all.channel_states
  pub stands : Stands sessions k k (net_of enqueued all.parts all.wires)
