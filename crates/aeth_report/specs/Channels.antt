-- Channels: those of an application in their order, and the opposite one.
--
--   channels_of      the channels of so many connections
--   opposite      the channel back
-- A connection with a channel each way: after Æthereal (2005).
use Rattle.std.proofs.Common.{ℕ, List, flat_map}
use Rattle.std.specs.List.{range_with_len}
use Rattle.aeth_base.specs.declared.ids.Channel.{Channel}
pub use Rattle.aeth_base.specs.Sides.{channels_with, other_side}
pub use Rattle.aeth_app.specs.Connections.{receiver, sender}

-- The channels of so many connections, in channel order.
abbrev pub channels_of : ℕ → List Channel
channels_of connections = flat_map channels_with (range_with_len 0 connections)

-- The channel that brings back the credits of a channel.
abbrev pub opposite : Channel → Channel
opposite channel = record { conn = channel.conn; side = other_side channel.side }
