-- Sessions by the places of their lines. A session has much that its line has too, and there are many more sessions
-- than lines: so it stands by the place of this, and by what it has of its own.
--
--   no_line, line_at      the line at a place of a use case, and that of a place past all
--   session_start_at, session_starts_at      a session by the place of its line, and some of them
-- This project's own.
use Rattle.std.proofs.Common.{ℕ, List, [], map}
use Rattle.std.specs.List.{slice_index_or}
use Rattle.aeth_base.specs.declared.ids.Side.TheVariants.{Fwd}
use Rattle.aeth_schedule.specs.Lines.{end_of, lines_at}
use Rattle.aeth_schedule.specs.declared.session_start.SessionStart.{SessionStart}
use Rattle.aeth_schedule.specs.declared.session_start.SessionStartByLine.{SessionStartByLine}
use Rattle.aeth_schedule.specs.declared.lines.Line.{Line}

-- What a place has that is past all lines.
abbrev pub no_line : Line
no_line = record {
  row = record {
    channel = record { conn = record { 0 = 0 }; side = Fwd };
    ni = record { 0 = 0 };
    queue = 0;
    slots = record { size = 1; slots = [] };
    route = 0;
    remote = 0;
    credits = 0;
  };
  shape = record {
    slots = record { size = 1; slots = [] };
    links = 0;
    delay = 0;
    need = 0;
    back = record { size = 1; slots = [] };
    back_links = 0;
  };
  receiver = record { ni = record { 0 = 0 }; queue = 0 };
}

-- The line at a place of a use case, out of those of all.
abbrev pub line_at : List (List Line) → ℕ → ℕ → Line
line_at all u place = slice_index_or (lines_at all u) place no_line

-- A session of the channel of a line, of which nothing is done.
abbrev pub session_start_along : Line → SessionStartByLine → SessionStart
session_start_along line one = record {
  channel = line.row.channel;
  shape = line.shape;
  until = one.until;
  before = one.before;
  count = one.count;
  channel_state = record {
    sender = end_of line.row;
    receiver = line.receiver;
    go = one.go;
    fin = one.fin;
    first = one.first;
    accepted = 0;
    pull = 0;
    enqueued = 0;
    landed = 0;
    taken = 0;
  };
}

-- That of the channel of the line at its place.
abbrev pub session_start_at : List (List Line) → SessionStartByLine → SessionStart
session_start_at all one = session_start_along (line_at all one.use_case.0 one.place) one

-- Some of them.
abbrev pub session_starts_at : List (List Line) → List SessionStartByLine → List SessionStart
session_starts_at all list = map (session_start_at all) list
