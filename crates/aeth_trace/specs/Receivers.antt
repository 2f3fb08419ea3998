-- The receivers' rows of a file, or the first rule that it breaks; and what a receiver takes.
--
--   heads_receivers, pull_in      the columns of receivers
--   receivers_of, AreReceiversOf      the rows of a file, and what holds of them
--   pulls_on, pulls_until      the rows of a channel; those that aren't later than a cycle
--   pull_of, pull_at      what the last of some rows says; what a receiver takes in a cycle
--   change_after, IsSteady      the next row of a channel, and what is taken before
-- This project's own.
use Rattle.std.proofs.Common.{◌≡◌, ◌≤◌, ◌<◌, ℕ, All, Bool, codes, List, length, map, Option, None}
use Rattle.std.proofs.Common.{option_map, Result, Ok, slice_get, unwrap_or}
use Rattle.std.specs.List.{last_or, Sorted.IsNonDecreasingBy}
use Rattle.aeth_app.specs.App.{AppData}
use Rattle.aeth_base.specs.{Faults.BrokenRule, declared.ids.Channel.Channel, Limits.max_cycles}
use Rattle.aeth_document.specs.Chain.{◌>>=◌}
use Rattle.aeth_trace.specs.{Channels.rows_on, Channels.rows_until, Fields.channel_in}
use Rattle.aeth_trace.specs.{Fields.four_of, Fields.heads_channels, Limits.max_pull}
use Rattle.aeth_trace.specs.{Limits.max_rows, Limits.usual_pull, Rules.are_few, Rules.are_in_order}
use Rattle.aeth_trace.specs.{Rules.are_known, Rules.table_of, Words.connection_names}
use Rattle.aeth_trace.specs.{declared.receivers.PullRow.PullRow}
use Rattle.aeth_records.specs.Records.{records_of}

-- Whether the fields are the header of a file of receivers.
abbrev pub heads_receivers : List (List ℕ) → Bool
heads_receivers fields = heads_channels (codes "pull") (four_of fields)

-- A pull of a channel's receiver from a cycle on.
abbrev pub pull_on : Channel × ℕ × ℕ → PullRow
pull_on told = record { channel = told.0; cycle = told.1; pull = told.2 }

-- The pull that a row tells, where its fields are those of its columns. The connection is the place
-- of its name among these.
abbrev pub pull_in : List (List ℕ) → List (List ℕ) → Option PullRow
pull_in names fields = option_map pull_on (channel_in names max_pull (four_of fields))

-- The receivers' rows of a file's bytes, for an application, in file order; or the first rule that
-- the file breaks.
unfoldable pub receivers_of : AppData → List ℕ → Result (List PullRow) BrokenRule
receivers_of app bytes = do
  rows ← table_of heads_receivers (pull_in (connection_names app)) (records_of bytes)
  known ← are_known 1 (length app.connections) 1 (map (λ row. row.channel.conn.0) rows)
  order ← are_in_order 0 1 (map (λ row. row.cycle) rows)
  few ← are_few max_rows (length rows)
  Ok rows

-- What holds of the receivers' rows of a file that was read with an application.
pub record AreReceiversOf (app : AppData) (rows : List PullRow) : Type 0 where
  pub few : length rows ≤ max_rows
  pub known : All (λ row. row.channel.conn.0 < length app.connections) rows
  pub order : IsNonDecreasingBy (λ row. row.cycle) rows
  pub cycles : All (λ row. row.cycle ≤ max_cycles) rows
  pub pulls : All (λ row. row.pull ≤ max_pull) rows

-- The rows of a channel, in file order.
abbrev pub pulls_on : List PullRow → Channel → List PullRow
pulls_on rows channel = rows_on (λ row. row.channel) channel rows

-- The rows of a channel whose cycle isn't later: the first ones, since cycles ascend.
abbrev pub pulls_until : List PullRow → Channel → ℕ → List PullRow
pulls_until rows channel cycle = rows_until (λ row. row.cycle) cycle (pulls_on rows channel)

-- What the last of some rows says, and 2 where there is none.
abbrev pub pull_of : List PullRow → ℕ
pull_of rows = unwrap_or (last_or None (map (λ row. row.pull) rows)) usual_pull

-- What the receiver of a channel takes in a cycle at most: what the last row of the channel says
-- whose cycle isn't later, and 2 where there is none.
abbrev pub pull_at : List PullRow → Channel → ℕ → ℕ
pull_at rows channel cycle = pull_of (pulls_until rows channel cycle)

-- The cycle of the first row of a channel that is later than a cycle.
abbrev pub change_after : List PullRow → Channel → ℕ → Option ℕ
change_after rows channel cycle =
    option_map (λ row. row.cycle)
    (slice_get (pulls_on rows channel) (length (pulls_until rows channel cycle)))

-- From a cycle on and before another the receiver of a channel takes the same at most.
abbrev pub IsSteady : List PullRow → Channel → ℕ → ℕ → Type 0
IsSteady rows channel from end = (t : ℕ) → from ≤ t → t < end
    → pull_at rows channel t ≡ pull_at rows channel from
