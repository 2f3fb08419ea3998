-- What a link is reserved for in a cycle: the places of paths at which a flit of an open session
-- would enter it then.
--
--   Reservation      a reserved place
--   may_inject      whether a session may inject a flit in a cycle
--   is_reserved, reserved_at, reserved_for      one place, and those of a session
--   reserved_by, reserved      those of a channel, and of all channels
-- Slots along paths: after Æthereal (2005). The rest: this project's own.
use Rattle.std.proofs.Common.{ℕ, ◌-◌, ◌==◌, ◌&&◌, Bool, true, nat_le, nat_lt, List, [], ◌∷◌}
use Rattle.std.proofs.Common.{flat_map, if◌then◌else◌}
use Rattle.std.specs.{List.enumerate_from, Option.option_map_or}
use Rattle.aeth_base.specs.declared.ids.{Channel.Channel, LinkId.LinkId}
use Rattle.aeth_chip.specs.Paths.{offset}
use Rattle.aeth_server.specs.SlotCycles.{is_slot}
use Rattle.aeth_reconf.specs.Timeline.{sessions_at}
use Rattle.aeth_report.specs.{Channels.channels_of, Design.Design, Design.grant_at}
use Rattle.aeth_report.specs.{declared.session.Session.Session}

-- A reserved place: the channel, the group by whose grant it is reserved, and the place of the
-- path.
pub record Reservation : Type 0 where
  pub channel : Channel
  pub group : ℕ
  pub place : ℕ

-- Whether a session may inject a flit in a cycle: it goes, and hasn't stopped.
abbrev pub may_inject : Session → ℕ → Bool
may_inject session u =
    nat_le session.go u && option_map_or (λ close. nat_lt u close.stop) session.close true

module _ (design : Design) (l t : ℕ) where
  -- Whether a link is reserved in a cycle for a session of a channel, at a place of its path: it
  -- may inject in the cycle from which a flit comes to the link by then, which is in one of its
  -- slots.
  abbrev pub is_reserved : Channel → Session → ℕ × LinkId → Bool
  is_reserved channel session place =
      let grant = grant_at design channel session.group.0 in
      let ahead = offset design.chip.links grant.path place.0 in
      place.1.0 == l && nat_le ahead t && may_inject session (t - ahead)
      && is_slot design.chip.slots grant.slots.slots (t - ahead)

  -- That reservation, where there is one.
  abbrev pub reserved_at : Channel → Session → ℕ × LinkId → List Reservation
  reserved_at channel session place =
      if is_reserved channel session place
      then record { channel = channel; group = session.group.0; place = place.0 } ∷ []
      else []

  -- Those of all places of a session's path.
  abbrev pub reserved_for : Channel → Session → List Reservation
  reserved_for channel session = flat_map (reserved_at channel session)
      (enumerate_from 0 (grant_at design channel session.group.0).path)

-- Those of all sessions of a channel.
abbrev pub reserved_by : Design → List (List Session) → ℕ → ℕ → Channel → List Reservation
reserved_by design timeline l t channel =
    flat_map (reserved_for design l t channel) (sessions_at timeline channel.conn.0)

-- All reservations of a link in a cycle, as a list, so that two of them would be seen.
abbrev pub reserved : Design → List (List Session) → ℕ → ℕ → List Reservation
reserved design timeline l t =
    flat_map (reserved_by design timeline l t) (channels_of design.groups.connections)
