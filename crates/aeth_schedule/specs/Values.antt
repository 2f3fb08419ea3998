-- The words of a run, channel by channel.
--
--   values_on, values_with, values_of      of a channel, of a connection's channels, and of so many
--                                          connections
--   ahead_of, start_of      the place of a channel's first word
--   before_of      the words that are offered before a cycle
-- This project's own.
use Rattle.std.proofs.Common.{ℕ, zero, suc, ◌+◌, ◌++◌, List, flat_map, length, map}
use Rattle.std.specs.List.{range_with_len}
use Rattle.aeth_base.specs.declared.ids.{Channel.Channel, ConnId.ConnId, Side.Side}
use Rattle.aeth_base.specs.declared.ids.{Side.TheVariants.Back, Side.TheVariants.Fwd}
use Rattle.aeth_trace.specs.{Words.words_on, Words.words_until, declared.words.WordRow.WordRow}

-- The values of a channel's words, in file order.
abbrev pub values_on : List WordRow → Channel → List ℕ
values_on words channel = map (λ row. row.value) (words_on words channel)

-- Those of a connection's channels.
abbrev pub values_with : List WordRow → ℕ → List ℕ
values_with words c =
    values_on words (record { conn = record { 0 = c }; side = Fwd })
    ++ values_on words (record { conn = record { 0 = c }; side = Back })

-- Those of the channels of so many connections, in channel order.
abbrev pub values_of : List WordRow → ℕ → List ℕ
values_of words connections = flat_map (values_with words) (range_with_len 0 connections)

-- How many words the channels of the same connection have before those of this side.
abbrev pub ahead_of : List WordRow → ConnId → Side → ℕ
ahead_of words conn Fwd = 0
ahead_of words conn Back = length (words_on words (record { conn = conn; side = Fwd }))

-- The place of the first word of a channel.
abbrev pub start_of : List WordRow → Channel → ℕ
start_of words channel =
    length (values_of words channel.conn.0) + ahead_of words channel.conn channel.side

-- How many words of a channel are offered before a cycle.
abbrev pub before_of : List WordRow → Channel → ℕ → ℕ
before_of words channel zero = 0
before_of words channel (suc t) = length (words_until words channel t)
