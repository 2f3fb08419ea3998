-- The sessions of all channels of a run in one list. A session's place in it is its number.
--
--   ConnectionStay      a stay of a connection
--   ChannelSession, session_on, both_of      a session of a channel, and those of a stay
--   is_of, is_on      whether a stay is one of a connection, and a session one of a channel
--   stay_by, entered_with      the stays of the connections that come with a use case
--   entered_behind, entered_from      those over rows of switches
--   session_list, listed_at      the sessions of a run, and the one of a number
--   turned      the session of the same stay on the opposite channel
--   pair_of, side_of, partner_of      a number's stay and side, and the number of the other side
--   place_at      the place of a session among those of its channel
--   flow_by, flows_of      a session as a flow, and the flows of a run
-- This project's own.
use Rattle.std.proofs.Common.{ℕ, zero, suc, ◌==◌, Bool, List, [], ◌∷◌, ◌++◌, Option, Some, None}
use Rattle.std.proofs.Common.{filter, flat_map, length, map, take, slice_index_or}
use Rattle.std.specs.List.{range_with_len}
use Rattle.aeth_base.specs.declared.ids.Channel.{Channel}
use Rattle.aeth_base.specs.declared.ids.Side.{Side, TheVariants.Back, TheVariants.Fwd}
use Rattle.aeth_group.specs.Members.{GroupsData, group_at, has_at}
use Rattle.aeth_trace.specs.{Channels.is_channel, declared.switches.SwitchRow.SwitchRow}
use Rattle.aeth_report.specs.Channels.{opposite}
use Rattle.aeth_report.specs.Flows.{Flow, Run, flow_of}
use Rattle.aeth_report.specs.Sessions.{Stay, Switch, closing_in, opens, session_of}

-- A stay of a connection, with its connection.
pub record ConnectionStay : Type 0 where
  pub conn : ℕ
  pub stay : Stay

-- A session of a channel: the channel, and the group and the switches of its stay.
pub record ChannelSession : Type 0 where
  pub channel : Channel
  pub stay : Stay

-- A stay of a connection as the session of its channel of one side.
abbrev pub session_on : ConnectionStay → Side → ChannelSession
session_on one side =
    record { channel = record { conn = record { 0 = one.conn }; side = side }; stay = one.stay }

-- It is a session of each of its channels, forward and then back.
abbrev pub both_of : ConnectionStay → List ChannelSession
both_of one = session_on one Fwd ∷ session_on one Back ∷ []

-- Whether a stay is one of a connection.
abbrev pub is_of : ℕ → ConnectionStay → Bool
is_of c one = c == one.conn

-- Whether a session is one of a channel.
abbrev pub is_on : Channel → ChannelSession → Bool
is_on channel session = is_channel channel session.channel

module _ (groups : GroupsData) where
  -- The stay of a connection that comes with use case u by this switch, over the rows that follow.
  abbrev pub stay_by : Option Switch → ℕ → List SwitchRow → ℕ → ConnectionStay
  stay_by opening u rows c = record {
    conn = c;
    stay = record {
      group = group_at groups u;
      opening = opening;
      closing = closing_in groups c u rows;
    };
  }

  -- The stays of the connections that so come and pass a test, in the order of connections.
  abbrev pub entered_with : (ℕ → Bool) → Option Switch → ℕ → List SwitchRow → List ConnectionStay
  entered_with comes opening u rows =
      map (stay_by opening u rows) (filter comes (range_with_len 0 groups.connections))

  -- The stays that rows open, the first of which leaves use case u.
  abbrev pub entered_behind : ℕ → List SwitchRow → List ConnectionStay
  entered_behind u [] = []
  entered_behind u (row ∷ rows) =
      entered_with (opens groups u row.to.0) (Some (record { leaves = u; row = row })) row.to.0
      rows
      ++ entered_behind row.to.0 rows

  -- The stays of a list of rows: first those of the use case that is loaded before cycle 0.
  abbrev pub entered_from : List SwitchRow → List ConnectionStay
  entered_from [] = []
  entered_from (first ∷ rows) =
      entered_with (has_at groups first.to.0) None first.to.0 rows
      ++ entered_behind first.to.0 rows

-- The session of the same stay on the opposite channel.
abbrev pub turned : ChannelSession → ChannelSession
turned session = record { channel = opposite session.channel; stay = session.stay }

-- Sessions stand in pairs: so many stays come before that of a number.
abbrev pub pair_of : ℕ → ℕ
pair_of zero = 0
pair_of (suc zero) = 0
pair_of (suc (suc c)) = suc (pair_of c)

-- The side of a number's session.
abbrev pub side_of : ℕ → Side
side_of zero = Fwd
side_of (suc zero) = Back
side_of (suc (suc c)) = side_of c

-- The number of the session of the same stay on the opposite channel: that beside it.
abbrev pub partner_of : ℕ → ℕ
partner_of zero = 1
partner_of (suc zero) = 0
partner_of (suc (suc c)) = suc (suc (partner_of c))

-- What stands for a missing session.
abbrev pub no_session : ChannelSession
no_session = record {
  channel = record { conn = record { 0 = 0 }; side = Fwd };
  stay = record { group = 0; opening = None; closing = None };
}

module _ (run : Run) where
  -- The stays of a run, in the order in which they come, and in that of connections where some come
  -- at once.
  abbrev pub entered_in : List ConnectionStay
  entered_in = entered_from run.design.groups run.switches

  -- Its sessions, in the same order: both of a stay side by side.
  abbrev pub session_list : List ChannelSession
  session_list = flat_map both_of entered_in

  -- The session of a number.
  abbrev pub listed_at : ℕ → ChannelSession
  listed_at c = slice_index_or session_list c no_session

  -- Its place among the sessions of its channel: how many stays of its connection come before.
  abbrev pub place_at : ℕ → ℕ
  place_at c =
      length (filter (is_of (listed_at c).channel.conn.0) (take (pair_of c) entered_in))

  -- A session as a flow.
  abbrev pub flow_by : ChannelSession → Flow
  flow_by session = flow_of run session.channel (session_of run.spans session.stay)

  -- The flows of a run, session by session.
  abbrev pub flows_of : List Flow
  flows_of = map flow_by session_list
