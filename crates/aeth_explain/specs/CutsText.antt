-- The cuts of a text, or the first rule that the text breaks; and the text of cuts. This project's own.
--
--   AreLinksOf      lists of links of a chip
--   line_of      what a `try` line tells of a try
--   known_line      what a line's fields name
--   matched      the `try` lines are those of the tries
--   cuts_behind, blocks_of, cuts_of_text      the lists behind each `try` line
--   try_line, cut_line, block_lines, cuts_text      the text of tries and their cuts
use Rattle.std.proofs.Common.{ℕ, ◌<◌, ◌==◌, ◌&&◌, ◌++◌, Bool, List, [], ◌∷◌, All, codes, decimal}
use Rattle.std.proofs.Common.{if◌then◌else◌, length, map, nat_lt, Result, Ok, Err}
use Rattle.std.specs.List.{join_with_byte, list_all}
use Rattle.aeth_base.specs.{Faults.BrokenRule, Sides.same_side, declared.ids.LinkId.LinkId}
use Rattle.aeth_document.specs.Chain.{◌>>=◌}
use Rattle.aeth_text.specs.{Limits.space, Order.line_after, Spelling.links_word, Spelling.side_word}
use Rattle.aeth_text.specs.{Spelling.text_of_lines}
use Rattle.aeth_chip.specs.Chip.{ChipData}
use Rattle.aeth_app.specs.{App.AppData, Connections.connection_names}
use Rattle.aeth_group.specs.Members.{GroupsData}
use Rattle.aeth_paths.specs.Trials.{TrialData}
use Rattle.aeth_plan.specs.{Plan.name_at, Rules.each, Rules.found, Rules.holds, Rules.place_among}
use Rattle.aeth_explain.specs.CutsFaults.{wrong_try}
use Rattle.aeth_explain.specs.Texts.{text_of}
use Rattle.aeth_explain.specs.declared.text_lines.LineText.{LineText}
use Rattle.aeth_explain.specs.declared.text_lines.LineText.TheVariants.{Cut, Try}
use Rattle.aeth_explain.specs.declared.try_line.{KnownLine.KnownLine, KnownLine.TheVariants.Listed}
use Rattle.aeth_explain.specs.declared.try_line.{KnownLine.TheVariants.Tried, TryLine.TryLine}

-- The links of lists are the chip's.
abbrev pub AreLinksOf : ChipData → List (List LinkId) → Type 0
AreLinksOf chip lists = All (All (λ (link : LinkId). link.0 < length chip.links)) lists

-- What a `try` line tells of a try.
abbrev pub line_of : TrialData → TryLine
line_of trial = record { unit = trial.ask.unit; side = trial.ask.side; turn = trial.turn }

-- What the fields of a line name: a connection and a group, or links of the chip.
unfoldable pub known_line : ChipData → AppData → GroupsData → ℕ → LineText
    → Result KnownLine BrokenRule
known_line chip app groups line (Try words) = do
  conn ← found line 2 (place_among (connection_names app) words.conn)
  group ← holds line 3 (nat_lt words.group groups.count)
  Ok (Tried (record {
    unit = record { conn = record { 0 = conn }; group = record { 0 = words.group } };
    side = words.side;
    turn = words.turn;
  }))
known_line chip app groups line (Cut links) = do
  known ← holds line 2 (list_all (λ link. nat_lt link.0 (length chip.links)) links)
  Ok (Listed links)

-- Whether two lines tell of one try.
abbrev pub same_try : TryLine → TryLine → Bool
same_try a b = a.unit.conn.0 == b.unit.conn.0 && (a.unit.group.0 == b.unit.group.0
    && (same_side a.side b.side && a.turn == b.turn))

-- The `try` lines are those of the tries, one by one, and the end comes behind the last. The first
-- line has this number.
abbrev pub matched : ℕ → List KnownLine → List TryLine → Result (Unit {0}) BrokenRule
matched line [] [] = Ok tt
matched line [] (own ∷ tries) = Err (wrong_try line)
matched line (Listed path ∷ lines) tries = matched (line_after line 1) lines tries
matched line (Tried other ∷ lines) [] = Err (wrong_try line)
matched line (Tried other ∷ lines) (own ∷ tries) =
    if same_try own other then matched (line_after line 1) lines tries else Err (wrong_try line)

-- The lists up to the next `try`.
abbrev pub cuts_behind : List KnownLine → List (List LinkId)
cuts_behind [] = []
cuts_behind (Tried other ∷ lines) = []
cuts_behind (Listed path ∷ lines) = path ∷ cuts_behind lines

-- The lists behind each `try`.
abbrev pub blocks_of : List KnownLine → List (List (List LinkId))
blocks_of [] = []
blocks_of (Tried other ∷ lines) = cuts_behind lines ∷ blocks_of lines
blocks_of (Listed path ∷ lines) = blocks_of lines

-- The lists that a text has for each try, or the first rule that it breaks: lines without their form,
-- then unknown fields, then other tries.
unfoldable pub cuts_of_text : ChipData → AppData → GroupsData → List TryLine → List ℕ
    → Result (List (List (List LinkId))) BrokenRule
cuts_of_text chip app groups tries bytes = do
  lines ← text_of bytes
  known ← each (known_line chip app groups) 2 lines
  same ← matched 2 known tries
  Ok (blocks_of known)

-- ---- The text

-- `try CONN GROUP SIDE TURN`.
unfoldable pub try_line : AppData → TryLine → List ℕ
try_line app line = join_with_byte space (codes "try"
    ∷ name_at (connection_names app) line.unit.conn.0 ∷ decimal line.unit.group.0
    ∷ side_word line.side ∷ decimal line.turn ∷ [])

-- `cut LINKS`.
unfoldable pub cut_line : List LinkId → List ℕ
cut_line links = join_with_byte space (codes "cut" ∷ links_word links ∷ [])

-- The line of a try and those of its cuts.
abbrev pub block_lines : AppData → TryLine → List (List LinkId) → List (List ℕ)
block_lines app line cuts = try_line app line ∷ map cut_line cuts

-- The lines of tries and of the cuts of each.
abbrev pub blocks_lines : AppData → List TryLine → List (List (List LinkId)) → List (List ℕ)
blocks_lines app [] cuts = []
blocks_lines app (line ∷ tries) [] = []
blocks_lines app (line ∷ tries) (own ∷ cuts) = block_lines app line own ++ blocks_lines app tries cuts

-- The text of tries and their cuts.
unfoldable pub cuts_text : AppData → List TryLine → List (List (List LinkId)) → List ℕ
cuts_text app tries cuts =
    text_of_lines (codes "explain 1" ∷ (blocks_lines app tries cuts ++ codes "end" ∷ []))
