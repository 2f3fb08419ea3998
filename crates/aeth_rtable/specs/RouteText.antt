-- The text of router tables.
--
--   head_line, numbers_words, hop_line      the first line, and that of a row
--   route_text      the text
-- This project's own.
use Rattle.std.proofs.Common.{ℕ, List, [], ◌∷◌, ◌++◌, codes, decimal, map}
use Rattle.std.specs.List.{join_with_byte}
use Rattle.aeth_app.specs.App.{AppData}
use Rattle.aeth_plan.specs.Plan.{name_at}
use Rattle.aeth_text.specs.{Limits.space, Spelling.text_of_lines}
use Rattle.aeth_trace.specs.Switches.{use_names}
use Rattle.aeth_router.specs.declared.router_row.RouterRow.{RouterRow}

-- `routes 1 USE`.
unfoldable pub head_line : List ℕ → List ℕ
head_line name = join_with_byte space (codes "routes" ∷ codes "1" ∷ name ∷ [])

-- ROUTER, PORT, SLOT and FROM.
abbrev pub numbers_words : RouterRow → List ℕ
numbers_words row = join_with_byte space (decimal row.router.0 ∷ decimal row.port
    ∷ decimal row.slot ∷ decimal row.from.0 ∷ [])

-- `hop ROUTER PORT SLOT FROM`.
unfoldable pub hop_line : RouterRow → List ℕ
hop_line row = join_with_byte space (codes "hop" ∷ numbers_words row ∷ [])

-- The lines of these rows of a use case.
abbrev pub lines_with : AppData → ℕ → List RouterRow → List (List ℕ)
lines_with app u rows =
    head_line (name_at (use_names app) u) ∷ (map hop_line rows ++ codes "end" ∷ [])

-- The text of these rows of a use case.
unfoldable pub route_text : AppData → ℕ → List RouterRow → List ℕ
route_text app u rows = text_of_lines (lines_with app u rows)
