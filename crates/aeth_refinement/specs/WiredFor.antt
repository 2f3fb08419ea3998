-- The components of a network behind routed sessions.
--
--   IsEndOf      an end is the queue from which a session sends
--   IsFrom, IsFromRouter, IsFromStage      the component that sends on a wire
--   IsWiredFor      components that are those of routed sessions
-- This project's own.
use Rattle.std.proofs.Common.{◌≡◌, ◌≤◌, ◌<◌, ℕ, ◌==◌, List, Some, position, slice_get}
use Rattle.aeth_base.specs.declared.ids.{LinkId.LinkId, NiId.NiId}
use Rattle.aeth_components.specs.Wirings.{Wiring, InterfaceWiring, RouterWiring, StageWiring}
use Rattle.aeth_components.specs.declared.channel_state.ChannelEnd.{ChannelEnd}
use Rattle.aeth_invariant.specs.RoutedSessions.{AtInterface, AtRouter, AtStage, RoutedSessions}

-- An end is the queue from which a session sends.
pub record IsEndOf (sessions : RoutedSessions) (c : ℕ) (end : ChannelEnd) : Type 0 where
  pub ni : end.ni.0 ≡ (sessions.routed_session c).ni
  pub queue : end.queue ≡ (sessions.routed_session c).queue

-- The interface of a number sends on a wire.
pub record IsFrom (wirings : List Wiring) (n l : ℕ) : Type 0 where
  pub number : NiId
  pub leaving : LinkId
  pub entering : LinkId
  pub slots : ℕ
  pub queues : ℕ
  pub face : slice_get wirings n ≡ Some (InterfaceWiring number leaving entering slots queues)
  pub sends : leaving.0 ≡ l

-- A router with these incoming wires sends on a wire, at its port of this number.
pub record IsFromRouter (wirings : List Wiring) (incoming : List ℕ) (port l : ℕ) : Type 0 where
  pub place : ℕ
  pub outgoing : List ℕ
  pub face : slice_get wirings place ≡ Some (RouterWiring incoming outgoing)
  pub sends : position (λ other. other == l) outgoing ≡ Some port

-- The stage behind a wire sends on another.
pub record IsFromStage (wirings : List Wiring) (m l : ℕ) : Type 0 where
  pub place : ℕ
  pub input : LinkId
  pub output : LinkId
  pub face : slice_get wirings place ≡ Some (StageWiring input output)
  pub reads : input.0 ≡ m
  pub sends : output.0 ≡ l

-- An interface with the queue of a session, and with the entering wire of the routed sessions.
pub record HasSession (sessions : RoutedSessions) (wirings : List Wiring) (c : ℕ) : Type 0 where
  pub number : NiId
  pub leaving : LinkId
  pub entering : LinkId
  pub slots : ℕ
  pub queues : ℕ
  pub face : slice_get wirings (sessions.routed_session c).ni
      ≡ Some (InterfaceWiring number leaving entering slots queues)
  pub within : (sessions.routed_session c).queue < queues
  pub enters : entering.0 ≡ sessions.entering (sessions.routed_session c).ni

-- Components with these wirings, and so many wires, are those of routed sessions: interfaces have
-- their slots and their queues, each wire is sent on by the component where it starts, and what is
-- no wire starts at a stage of its own.
pub record IsWiredFor (sessions : RoutedSessions) (wirings : List Wiring) (count : ℕ) : Type 0 where
  pub slots : (n : ℕ) (number : NiId) (leaving entering : LinkId) (slots queues : ℕ)
      → slice_get wirings n ≡ Some (InterfaceWiring number leaving entering slots queues)
      → slots ≡ sessions.size
  pub session : (c : ℕ) → c < sessions.count → HasSession sessions wirings c
  pub interface : (l n : ℕ) → l < count → sessions.start l ≡ AtInterface n → IsFrom wirings n l
  pub router : (l r : ℕ) → l < count → sessions.start l ≡ AtRouter r
      → IsFromRouter wirings (sessions.incoming r) (sessions.port l) l
  pub stage : (l m : ℕ) → l < count → sessions.start l ≡ AtStage m → IsFromStage wirings m l
  pub past : (l : ℕ) → count ≤ l → sessions.start l ≡ AtStage l
