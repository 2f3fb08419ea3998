-- A reservation in words apart from their list.
-- Slots along paths: after Æthereal (2005).
use Rattle.std.proofs.Common.{◌≡◌, ◌+◌, ℕ, IsTrue, List, Contains, Some, slice_get}
use Rattle.aeth_chip.specs.Paths.{offset}
use Rattle.aeth_server.specs.SlotCycles.{is_slot}
use Rattle.aeth_reconf.specs.Timeline.{sessions_at}
use Rattle.aeth_report.specs.{Channels.channels_of, Design.Design, Design.grant_at}
use Rattle.aeth_report.specs.{Sessions.MayInject, declared.session.Session.Session}
use Rattle.aeth_audit.specs.Reservations.{Reservation}

-- A link is reserved in a cycle: a session of the channel, by the grants of the group, may inject a
-- flit in a cycle, which is in a slot of the channel's, and the flit would enter the link in this
-- one, at the place of the path.
pub record IsReserved (design : Design) (timeline : List (List Session)) (l t : ℕ)
    (at : Reservation) : Type 0 where
  pub session : Session
  pub injected : ℕ
  pub is_channel : Contains (channels_of design.groups.connections) at.channel
  pub is_session : Contains (sessions_at timeline at.channel.conn.0) session
  pub group : session.group.0 ≡ at.group
  pub may : MayInject session injected
  pub slot : IsTrue (is_slot design.chip.slots
      (grant_at design at.channel at.group).slots.slots injected)
  pub place : slice_get (grant_at design at.channel at.group).path at.place
      ≡ Some (record { 0 = l })
  pub time : injected + offset design.chip.links (grant_at design at.channel at.group).path at.place
      ≡ t
