-- The words of a file, or the first rule that it breaks; and the words of a channel.
-- This project's own.
use Rattle.std.specs.Prelude.{◌≤◌, ◌<◌, ℕ, All, Bool, codes, List, length, map, Option, option_map}
use Rattle.std.specs.Prelude.{Result, Ok}
use Rattle.std.specs.List.Sorted.{IsNonDecreasingBy}
use Rattle.aeth_app.specs.App.{AppData}
pub use Rattle.aeth_app.specs.Connections.{connection_names}
use Rattle.aeth_base.specs.Faults.{BrokenRule}
use Rattle.aeth_base.specs.declared.ids.Channel.{Channel}
use Rattle.aeth_base.specs.Limits.{max_cycles}
use Rattle.aeth_document.specs.Chain.{◌>>=◌}
use Rattle.aeth_trace.specs.Channels.{rows_on, rows_until}
use Rattle.aeth_trace.specs.Fields.{channel_in, four_of, heads_channels}
use Rattle.aeth_trace.specs.Limits.{max_rows, max_value}
use Rattle.aeth_records.specs.Records.{records_of}
use Rattle.aeth_trace.specs.Rules.{are_few, are_in_order, are_known, table_of}
use Rattle.aeth_trace.specs.declared.words.WordRow.{WordRow}

-- Whether the fields are the header of a file of words.
abbrev pub heads_words : List (List ℕ) → Bool
heads_words fields = heads_channels (codes "value") (four_of fields)

-- A word on a channel in a cycle.
abbrev pub word_on : Channel × ℕ × ℕ → WordRow
word_on told = record { channel = told.0; cycle = told.1; value = told.2 }

-- The word that a row tells, where its fields are those of its columns. The connection is the place
-- of its name among these.
abbrev pub word_in : List (List ℕ) → List (List ℕ) → Option WordRow
word_in names fields = option_map word_on (channel_in names max_value (four_of fields))

-- The words of a file's bytes, for an application, in file order; or the first rule that the file
-- breaks.
unfoldable pub words_of : AppData → List ℕ → Result (List WordRow) BrokenRule
words_of app bytes = do
  rows ← table_of heads_words (word_in (connection_names app)) (records_of bytes)
  known ← are_known 1 (length app.connections) 1 (map (λ row. row.channel.conn.0) rows)
  order ← are_in_order 0 1 (map (λ row. row.cycle) rows)
  few ← are_few max_rows (length rows)
  Ok rows

-- What holds of the words of a file that was read with an application.
pub record AreWordsOf (app : AppData) (words : List WordRow) : Type 0 where
  pub few : length words ≤ max_rows
  pub known : All (λ row. row.channel.conn.0 < length app.connections) words
  pub order : IsNonDecreasingBy (λ row. row.cycle) words
  pub cycles : All (λ row. row.cycle ≤ max_cycles) words

-- The words of a channel, in file order.
abbrev pub words_on : List WordRow → Channel → List WordRow
words_on words channel = rows_on (λ row. row.channel) channel words

-- The words of a channel that are offered up to a cycle: the first ones, since cycles ascend.
abbrev pub words_until : List WordRow → Channel → ℕ → List WordRow
words_until words channel cycle = rows_until (λ row. row.cycle) cycle (words_on words channel)
