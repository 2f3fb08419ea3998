-- The lines of a log of links: its header, and that of a row.
-- This project's own.
use Rattle.std.proofs.Common.{◌*◌, ℕ, List, [], ◌∷◌, codes, decimal, map}
use Rattle.std.specs.List.{join_with_byte}
use Rattle.aeth_text.specs.{Limits.comma, Limits.field_room, Spelling.ended_line}
use Rattle.aeth_audit.specs.declared.row.LinkRow.{LinkRow}

-- The names of the columns.
abbrev pub column_names : List (List ℕ)
column_names =
    codes "cycle" ∷ codes "link" ∷ codes "header" ∷ codes "first" ∷ codes "second" ∷ []

-- `CYCLE,LINK,HEADER,FIRST,SECOND` and a line feed: the line of a row.
abbrev pub row_line : LinkRow → List ℕ
row_line row = ended_line (join_with_byte comma (map decimal
    (row.cycle ∷ row.link.0 ∷ row.flit.header ∷ row.flit.first ∷ row.flit.second ∷ [])))

-- The most bytes of a line: five fields.
abbrev pub line_room : ℕ
line_room = 5 * field_room
