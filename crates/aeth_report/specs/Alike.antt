-- What the log of one channel rests on: its sessions, its words and its receiver, and what its
-- connection wishes and is granted in the group of each session. Nothing else of a run shows in it.
-- This project's own.
use Rattle.std.proofs.Common.{◌≡◌, ℕ, Contains}
use Rattle.aeth_base.specs.declared.ids.Channel.{Channel}
use Rattle.aeth_chip.specs.Paths.{path_delay}
use Rattle.aeth_trace.specs.{Receivers.pulls_on, Words.words_on}
use Rattle.aeth_report.specs.{declared.session.Session.Session, Channels.opposite, Design.Design}
use Rattle.aeth_report.specs.{Design.connection_at, Design.grant_at, Flows.Run, Flows.sessions_in}

-- A channel has the same slots in a group of two designs, on paths of the same delay.
pub record IsGrantedAlike (one other : Design) (channel : Channel) (group : ℕ) : Type 0 where
  pub slots : (grant_at one channel group).slots.slots ≡ (grant_at other channel group).slots.slots
  pub delay : path_delay one.chip.links (grant_at one channel group).path
      ≡ path_delay other.chip.links (grant_at other channel group).path

-- Two runs give the same to a channel.
pub record IsGivenAlike (one other : Run) (channel : Channel) : Type 0 where
  pub cycles : one.cycles ≡ other.cycles
  pub table : one.design.chip.slots ≡ other.design.chip.slots
  pub sessions : sessions_in one channel.conn.0 ≡ sessions_in other channel.conn.0
  pub own : (session : Session) → Contains (sessions_in one channel.conn.0) session
      → IsGrantedAlike one.design other.design channel session.group.0
  pub back : (session : Session) → Contains (sessions_in one channel.conn.0) session
      → IsGrantedAlike one.design other.design (opposite channel) session.group.0
  pub fwd_wish : (connection_at one.design channel.conn).fwd
      ≡ (connection_at other.design channel.conn).fwd
  pub back_wish : (connection_at one.design channel.conn).back
      ≡ (connection_at other.design channel.conn).back
  pub words : words_on one.words channel ≡ words_on other.words channel
  pub pulls : pulls_on one.pulls channel ≡ pulls_on other.pulls channel
