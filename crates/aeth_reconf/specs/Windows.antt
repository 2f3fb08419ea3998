-- Windows: for how long what a switch writes stands in the tables of an interface. The numbers tell
-- after how many cycles' halts, finishes and writes something holds: 0 for what is done before cycle
-- 0, and e + 1 for what is done in cycle e.
--
--   ahead_of      how many writes come before those of a channel
--   IsClosed, IsOpened      a channel that a switch closes, and one that it opens
--   closing_ahead, opening_ahead      so many writes of a switch
--   AreCounted, AreAllApart, AreQueuesApart      what holds of spans and rows
--   IsStayAt      a stay at its place
--   clears_from, sets_from      the first write of a switch, and the first that sets
--   since_of, IsOwned, IsHandedOn      from when on a queue is a stay's own
--   set_of, slot_set_of      when a channel's route and its slots are set
--   cleared_of, freed_of      when its slots are cleared, and its route
--   set_route, IsClosingWrite, IsOpeningWrite      the writes of a switch
--   IsInOrder, IsSlotInOrder      the order of a stay's windows
--   IsWritten, IsSlotWritten      within these
--   AreWritable, AreBothWritten      rows that can be written, and two routes that stand written
-- One write in a cycle, through one central port: this project's own.
use Rattle.std.proofs.Common.{◌≡◌, ◌≤◌, ◌<◌, ℕ, zero, suc, ◌+◌, if◌then◌else◌, List, [], ◌∷◌}
use Rattle.std.proofs.Common.{IfSome, IsTrue, Option, Some, None, All, Ok, length, option_map}
use Rattle.std.proofs.Common.{slice_get, sum_by, unwrap_or}
use Rattle.aeth_base.specs.declared.ids.Channel.{Channel}
use Rattle.aeth_group.specs.Members.{GroupsData, group_at, has_at}
use Rattle.aeth_ni.specs.{Program.write_count, declared.row.ChannelRow.ChannelRow}
use Rattle.aeth_ni.specs.{declared.write.Write.Write, declared.write.Write.TheVariants.SetRoute}
use Rattle.aeth_trace.specs.{Channels.is_channel, Spans.SpanData, Spans.span_of, Switches.are_apart}
use Rattle.aeth_trace.specs.{declared.switches.SwitchRow.SwitchRow}
use Rattle.aeth_report.specs.Sessions.{Stay, Switch, close_by, closes, go_of, opens, stays_of}
use Rattle.aeth_reconf.specs.Rows.{AreApart, RowOf, channels_that, rows_closing, rows_opening}

-- How many writes the channels before this one have, in a group.
abbrev pub ahead_of : RowOf → ℕ → List Channel → Channel → ℕ
ahead_of row_of group [] channel = 0
ahead_of row_of group (one ∷ channels) channel =
    if is_channel one channel then 0
    else write_count (row_of group one) + ahead_of row_of group channels channel

-- The spans have a cycle for each write of a switch between known use cases.
abbrev pub AreCounted : GroupsData → RowOf → SpanData → Type 0
AreCounted groups row_of spans = (u v : ℕ) → u < length groups.uses → v < length groups.uses
    → sum_by write_count (rows_closing groups row_of u v)
    + sum_by write_count (rows_opening groups row_of u v) ≤ (span_of spans u v).1

-- No two channels of any use case have a queue or a slot of an interface in common.
abbrev pub AreAllApart : GroupsData → RowOf → Type 0
AreAllApart groups row_of = (u : ℕ) → AreApart groups row_of u

-- A queue is one channel's in all use cases.
abbrev pub AreQueuesApart : GroupsData → RowOf → Type 0
AreQueuesApart groups row_of = (u v : ℕ) (one other : Channel)
    → IsTrue (has_at groups u one.conn.0) → IsTrue (has_at groups v other.conn.0)
    → (row_of (group_at groups u) one).ni ≡ (row_of (group_at groups v) other).ni
    → (row_of (group_at groups u) one).queue ≡ (row_of (group_at groups v) other).queue
    → one ≡ other

-- The write that sets the route of a row.
abbrev pub set_route : ChannelRow → Write
set_route row = SetRoute row.ni row.queue row.route row.remote row.credits

-- A switch closes a channel of the application.
pub record IsClosed (groups : GroupsData) (switch : Switch) (channel : Channel) : Type 0 where
  pub known : channel.conn.0 < groups.connections
  pub is : IsTrue (closes groups switch.leaves switch.row.to.0 channel.conn.0)

-- It opens one.
pub record IsOpened (groups : GroupsData) (switch : Switch) (channel : Channel) : Type 0 where
  pub known : channel.conn.0 < groups.connections
  pub is : IsTrue (opens groups switch.leaves switch.row.to.0 channel.conn.0)

module _ (groups : GroupsData) (row_of : RowOf) where
  -- How many writes of a switch come before those that close a channel.
  abbrev pub closing_ahead : Switch → Channel → ℕ
  closing_ahead switch channel =
      ahead_of row_of (group_at groups switch.leaves)
      (channels_that groups (closes groups switch.leaves switch.row.to.0)) channel

  -- How many that set come before those that open a channel.
  abbrev pub opening_ahead : Switch → Channel → ℕ
  opening_ahead switch channel =
      ahead_of row_of (group_at groups switch.row.to.0)
      (channels_that groups (opens groups switch.leaves switch.row.to.0)) channel

-- A stay of a channel, at its place over the rows of switches.
pub record IsStayAt (groups : GroupsData) (rows : List SwitchRow) (channel : Channel) (place : ℕ)
    (stay : Stay) : Type 0 where
  pub known : channel.conn.0 < groups.connections
  pub at : slice_get (stays_of groups channel.conn.0 rows) place ≡ Some stay

module _ (spans : SpanData) where
  -- From when on a switch clears what it closes: once that is finished.
  abbrev pub clears_from : Switch → ℕ
  clears_from switch = (close_by spans switch).fin + 1

  -- When what a stay closes is finished; 0 where there is none, or where it isn't closed.
  abbrev since_behind : Option Stay → ℕ
  since_behind None = 0
  since_behind (Some stay) = unwrap_or (option_map clears_from stay.closing) 0

  -- From when on the queue is its own of the stay at a place of a connection's stays: from the start,
  -- or once the stay before it is finished.
  abbrev pub since_of : List Stay → ℕ → ℕ
  since_of stays zero = 0
  since_of stays (suc place) = since_behind (slice_get stays place)

  -- Its own of that stay.
  pub record IsOwned (stays : List Stay) (place : ℕ) (stay : Stay) (t : ℕ) : Type 0 where
    pub since : since_of stays place ≤ t
    pub unfinished : IfSome stay.closing (λ switch. t ≤ (close_by spans switch).fin)

  -- The queue is handed on to the stay at a place by the one before it, once that has finished.
  pub record IsHandedOn (stays : List Stay) (place : ℕ) : Type 0 where
    pub stay : Stay
    pub before : ℕ
    pub next : before + 1 ≡ place
    pub at : slice_get stays before ≡ Some stay
    pub switch : Switch
    pub closing : stay.closing ≡ Some switch
    pub since : since_of stays place ≡ (close_by spans switch).fin + 1

module _ (groups : GroupsData) (row_of : RowOf) (spans : SpanData) where
  -- From when on it sets what it opens: behind all clears.
  abbrev pub sets_from : Switch → ℕ
  sets_from switch = clears_from spans switch
      + sum_by write_count (rows_closing groups row_of switch.leaves switch.row.to.0)

  -- When the route of a channel is set that this switch opens, or that is loaded before cycle 0.
  abbrev pub set_of : Channel → Option Switch → ℕ
  set_of channel None = 0
  set_of channel (Some switch) = sets_from switch + opening_ahead groups row_of switch channel

  -- When the slot at a place of its slots is set.
  abbrev pub slot_set_of : Channel → Option Switch → ℕ → ℕ
  slot_set_of channel None place = 0
  slot_set_of channel (Some switch) place = set_of channel (Some switch) + 1 + place

  -- When the slot at a place of its slots is cleared, by a switch that closes it.
  abbrev pub cleared_of : Channel → Switch → ℕ → ℕ
  cleared_of channel switch place =
      clears_from spans switch + closing_ahead groups row_of switch channel + place

  -- When its route is cleared, behind its slots, in a group.
  abbrev pub freed_of : ℕ → Channel → Switch → ℕ
  freed_of group channel switch =
      cleared_of channel switch (length (row_of group channel).slots.slots)

  -- ---- the writes of a switch

  -- The k-th write of a switch is one of those that close a channel, in its cycle: that of the slot at
  -- place i, or behind its slots that of its route.
  pub record IsClosingWrite (switch : Switch) (k : ℕ) : Type 0 where
    pub channel : Channel
    pub closed : IsClosed groups switch channel
    pub i : ℕ
    pub inside : i < write_count (row_of (group_at groups switch.leaves) channel)
    pub time : clears_from spans switch + k ≡ cleared_of channel switch i

  -- It is one of those that open a channel: that of its route where i is 0, or that of the slot at the
  -- place before i.
  pub record IsOpeningWrite (switch : Switch) (k : ℕ) : Type 0 where
    pub channel : Channel
    pub opened : IsOpened groups switch channel
    pub i : ℕ
    pub inside : i < write_count (row_of (group_at groups switch.row.to.0) channel)
    pub time : clears_from spans switch + k ≡ set_of channel (Some switch) + i

  -- ---- what holds of a stay

  -- The order of the windows of a channel's stay: the route is set before the session goes, this before
  -- it stops accepting words, and the route is cleared once it has finished.
  pub record IsInOrder (channel : Channel) (stay : Stay) : Type 0 where
    pub first_set : set_of channel stay.opening ≤ go_of spans stay.opening
    pub then_until : IfSome stay.closing (λ switch.
        go_of spans stay.opening ≤ (close_by spans switch).until)
    pub then_free : IfSome stay.closing (λ switch.
        (close_by spans switch).fin < freed_of stay.group channel switch)

  -- At a place of its slots: the slot is set behind the route, and before the session goes; it is
  -- cleared once the session has finished, and before the route.
  pub record IsSlotInOrder (channel : Channel) (stay : Stay) (place : ℕ) : Type 0 where
    pub behind_route : set_of channel stay.opening ≤ slot_set_of channel stay.opening place
    pub then_go : slot_set_of channel stay.opening place ≤ go_of spans stay.opening
    pub then_clear : IfSome stay.closing (λ switch.
        (close_by spans switch).fin < cleared_of channel switch place)
    pub then_free : IfSome stay.closing (λ switch.
        cleared_of channel switch place < freed_of stay.group channel switch)

  -- The route of a channel's stay stands written.
  pub record IsWritten (channel : Channel) (stay : Stay) (t : ℕ) : Type 0 where
    pub set : set_of channel stay.opening ≤ t
    pub unfreed : IfSome stay.closing (λ switch. t < freed_of stay.group channel switch)

  -- So does the slot at a place of its slots.
  pub record IsSlotWritten (channel : Channel) (stay : Stay) (place slot t : ℕ) : Type 0 where
    pub is : slice_get (row_of stay.group channel).slots.slots place ≡ Some slot
    pub set : slot_set_of channel stay.opening place ≤ t
    pub uncleared : IfSome stay.closing (λ switch. t < cleared_of channel switch place)

  -- ---- rows of switches

  -- Rows that can be written: there is a cycle for each write, each row enters a known use case, and
  -- none begins before the one before it is done.
  pub record AreWritable (rows : List SwitchRow) : Type 0 where
    pub counted : AreCounted groups row_of spans
    pub known : All (λ row. row.to.0 < length groups.uses) rows
    pub apart : are_apart spans rows ≡ Ok tt

  -- The routes of two channels' stays stand written at one time.
  pub record AreBothWritten (rows : List SwitchRow) (one other : Channel) (i j : ℕ) (s e : Stay)
      (t : ℕ) : Type 0 where
    pub first : IsStayAt groups rows one i s
    pub second : IsStayAt groups rows other j e
    pub written : IsWritten one s t
    pub written_too : IsWritten other e t
