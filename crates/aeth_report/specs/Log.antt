-- What the log of a run is seen as.
-- This project's own.
use Rattle.std.proofs.Common.{ℕ, Bool, List}
use Rattle.aeth_base.specs.declared.ids.Channel.{Channel}
use Rattle.aeth_report.specs.declared.log.Landing.{Landing}

-- A session of a channel: the cycle from which on it is in use, whether it has ended, how many of its
-- words were offered, have landed and were taken, and the landings in the order of the words.
pub record SessionData : Type 0 where
  pub go : ℕ
  pub ended : Bool
  pub offered : ℕ
  pub landed : ℕ
  pub taken : ℕ
  pub rows : List Landing

-- A channel: its sessions in their order, and how many of its words were offered in none of them.
pub record ChannelData : Type 0 where
  pub channel : Channel
  pub sessions : List SessionData
  pub outside : ℕ

-- A log: the number of cycles, the channels in their order, and for each link the number of cycles
-- in which it carries a flit.
pub record LogData : Type 0 where
  pub cycles : ℕ
  pub channels : List ChannelData
  pub flits : List ℕ
