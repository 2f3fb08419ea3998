-- The text of a log.
--
--   line_of      a line of words
--   head_line      the first line
--   state_word, session_line, landing_line, drop_line, drop_lines, session_lines      a session
--   outside_line, outside_lines, channel_lines      a channel
--   link_line      a link
--   lines_of, text_of      all lines, and the text
-- This project's own.
use Rattle.std.proofs.Common.{ℕ, ◌+◌, ◌*◌, ◌-◌, ◌==◌, Bool, true, false, if◌then◌else◌, List, []}
use Rattle.std.proofs.Common.{◌∷◌, ◌++◌, codes, decimal, flat_map, map, slice_get, Option, Some}
use Rattle.std.proofs.Common.{None}
use Rattle.std.specs.List.{enumerate_from, join_with_byte}
use Rattle.aeth_base.specs.declared.ids.{Channel.Channel, Side.Side}
use Rattle.aeth_text.specs.Limits.{field_room, space}
use Rattle.aeth_text.specs.Spelling.{side_word, text_of_lines}
use Rattle.aeth_app.specs.{App.AppData, declared.connection.Connection.Connection}
use Rattle.aeth_report.specs.declared.log.Landing.{Landing}
use Rattle.aeth_report.specs.Log.{ChannelData, LogData, SessionData}

-- The words of a line, with spaces between them.
abbrev pub line_of : List (List ℕ) → List ℕ
line_of words = join_with_byte space words

-- `sim 1 CYCLES`.
unfoldable pub head_line : ℕ → List ℕ
head_line cycles = line_of (codes "sim" ∷ codes "1" ∷ decimal cycles ∷ [])

-- `ended` or `running`.
unfoldable pub state_word : Bool → List ℕ
state_word true = codes "ended"
state_word false = codes "running"

-- `chan CONN SIDE GO STATE OFFERED LANDED TAKEN`.
unfoldable pub session_line : List ℕ → Side → SessionData → List ℕ
session_line name side session =
    line_of (codes "chan" ∷ name ∷ side_word side ∷ decimal session.go ∷ state_word session.ended
    ∷ decimal session.offered ∷ decimal session.landed ∷ decimal session.taken ∷ [])

-- `land INDEX OFFERED LANDED DUE VALUE`.
unfoldable pub landing_line : ℕ × Landing → List ℕ
landing_line row =
    line_of (codes "land" ∷ decimal row.0 ∷ decimal row.1.offered ∷ decimal row.1.landed
    ∷ decimal row.1.due ∷ decimal row.1.value ∷ [])

-- The most bytes of the line of a landing: its word with a space, and five fields.
abbrev pub landing_room : ℕ
landing_room = 5 + 5 * field_room

-- `drop UNLANDED UNTAKEN`.
unfoldable pub drop_line : SessionData → List ℕ
drop_line session =
    line_of (codes "drop" ∷ decimal (session.offered - session.landed)
    ∷ decimal (session.landed - session.taken) ∷ [])

-- What was dropped of a session that has ended.
abbrev pub drop_lines : SessionData → List (List ℕ)
drop_lines session = if session.ended then drop_line session ∷ [] else []

-- A session, its landings numbered from 1, and what was dropped.
abbrev pub session_lines : List ℕ → Side → SessionData → List (List ℕ)
session_lines name side session =
    session_line name side session
    ∷ (map landing_line (enumerate_from 1 session.rows) ++ drop_lines session)

-- `outside CONN SIDE COUNT`.
unfoldable pub outside_line : List ℕ → Side → ℕ → List ℕ
outside_line name side count =
    line_of (codes "outside" ∷ name ∷ side_word side ∷ decimal count ∷ [])

-- The words outside of all sessions, where there are any.
abbrev pub outside_lines : List ℕ → Side → ℕ → List (List ℕ)
outside_lines name side count = if count == 0 then [] else outside_line name side count ∷ []

-- The name of a connection, which may be missing.
abbrev pub name_in : Option Connection → List ℕ
name_in None = []
name_in (Some connection) = connection.name

-- The name of a channel's connection.
abbrev pub name_of_channel : AppData → Channel → List ℕ
name_of_channel app channel = name_in (slice_get app.connections channel.conn.0)

-- The lines of a channel whose connection has this name.
abbrev pub lines_named : List ℕ → ChannelData → List (List ℕ)
lines_named name one =
    flat_map (session_lines name one.channel.side) one.sessions
    ++ outside_lines name one.channel.side one.outside

-- The lines of a channel: its sessions, and its words outside of them.
abbrev pub channel_lines : AppData → ChannelData → List (List ℕ)
channel_lines app one = lines_named (name_of_channel app one.channel) one

-- `link LINK FLITS`.
unfoldable pub link_line : ℕ × ℕ → List ℕ
link_line link = line_of (codes "link" ∷ decimal link.0 ∷ decimal link.1 ∷ [])

-- The lines of a log of an application.
abbrev pub lines_of : AppData → LogData → List (List ℕ)
lines_of app log =
    head_line log.cycles
    ∷ (flat_map (channel_lines app) log.channels
    ++ (map link_line (enumerate_from 0 log.flits) ++ codes "end" ∷ []))

-- The text of a log of an application.
unfoldable pub text_of : AppData → LogData → List ℕ
text_of app log = text_of_lines (lines_of app log)
