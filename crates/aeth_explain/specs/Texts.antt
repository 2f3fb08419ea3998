-- What the text of certificates says, before any name is looked up.
--
--   TryText, LineText      what a `try` line says, and what a line of either form says
--   is_head, try_in, cut_in, line_in      the lines
--   text_in, text_of      the whole text, or the first line that hasn't its form at its position
-- This project's own.
use Rattle.std.proofs.Common.{ℕ, Bool, List, [], ◌∷◌, codes, length, Option, Some, None, option_map}
use Rattle.std.proofs.Common.{Result, Ok, Err, if◌then◌else◌}
use Rattle.std.specs.Str.{bytes_eq}
use Rattle.aeth_base.specs.{Faults.BrokenRule, Name.name_of, declared.ids.LinkId.LinkId}
use Rattle.aeth_base.specs.{declared.ids.Side.Side}
use Rattle.aeth_document.specs.Chain.{◌>>=◌}
use Rattle.aeth_plan.specs.{Lines.closed, Refusals.bad_line}
use Rattle.aeth_text.specs.{Fields.link_in, Fields.links_in, Fields.number_in, Fields.side_in}
use Rattle.aeth_text.specs.{Grammar.behind, Grammar.field, Grammar.headed, Grammar.last_field}
use Rattle.aeth_text.specs.{Grammar.leading, Grammar.lines_of, Grammar.parts, Grammar.rest_of}
use Rattle.aeth_text.specs.{Limits.space, Order.line_after}
use Rattle.aeth_explain.specs.declared.text_lines.{LineText.LineText, LineText.TheVariants.Cut}
use Rattle.aeth_explain.specs.declared.text_lines.{LineText.TheVariants.Try, TryText.TryText}

-- `explain 1`.
unfoldable pub is_head : List ℕ → Bool
is_head line = bytes_eq line (codes "explain 1")

-- What the words of a `try` line after its first say.
abbrev pub try_text : List ℕ × (ℕ × (Side × ℕ)) → TryText
try_text f = record { conn = f.0; group = f.1.0; side = f.1.1.0; turn = f.1.1.1 }

-- `try CONN GROUP SIDE TURN`.
unfoldable pub try_in : List ℕ → Option TryText
try_in line = option_map try_text
    (headed (codes "try") (field name_of (field number_in (field side_in (last_field number_in))))
    (parts space line))

-- The links of a path, or one link.
abbrev pub or_one : Option (List LinkId) → Option LinkId → Option (List LinkId)
or_one (Some links) one = Some links
or_one None one = option_map (λ link. link ∷ []) one

-- A comma list of 1 to 8 links.
abbrev pub some_links_in : List ℕ → Option (List LinkId)
some_links_in word = or_one (links_in word) (link_in word)

-- `cut LINKS`.
unfoldable pub cut_in : List ℕ → Option (List LinkId)
cut_in line = headed (codes "cut") (last_field some_links_in) (parts space line)

-- What a line of either form says.
abbrev pub line_by : Option TryText → Option (List LinkId) → Option LineText
line_by (Some words) links = Some (Try words)
line_by None links = option_map Cut links

abbrev pub line_in : List ℕ → Option LineText
line_in line = line_by (try_in line) (cut_in line)

-- The first line behind the head is no `cut`: each stands behind a `try`.
abbrev pub headless : List LineText → Result (Unit {0}) BrokenRule
headless [] = Ok tt
headless (Try words ∷ lines) = Ok tt
headless (Cut links ∷ lines) = Err (bad_line 2)

-- What the lines after the first say: `try` and `cut` lines as long as there are, then the end.
unfoldable pub body_in : List (List ℕ) → List ℕ → Result (List LineText) BrokenRule
body_in lines rest = do
  head ← headless (leading line_in lines)
  end ← closed (line_after 2 (length (leading line_in lines))) (behind line_in lines) rest
  Ok (leading line_in lines)

-- What the lines of a text say, or the first that hasn't its form at its position.
abbrev pub text_in : List (List ℕ) → List ℕ → Result (List LineText) BrokenRule
text_in [] rest = Err (bad_line 1)
text_in (first ∷ lines) rest = if is_head first then body_in lines rest else Err (bad_line 1)

-- What a text says.
unfoldable pub text_of : List ℕ → Result (List LineText) BrokenRule
text_of bytes = text_in (lines_of bytes) (rest_of bytes)
