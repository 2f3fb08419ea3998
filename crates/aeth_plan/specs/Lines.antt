-- What the lines of a plan text say, before any name is looked up.
--
--   GrantWords, PlanWords      what a `grant` line says, and what all lines say
--   head_in, seat_in, grant_in, is_end      the lines
--   text_in, text_of      the whole text, or the first line that hasn't its form at its position
-- This project's own.
use Rattle.std.proofs.Common.{ℕ, Bool, List, [], ◌∷◌, codes, length, Option, Some, None, option_map}
use Rattle.std.proofs.Common.{Result, Ok, Err, if◌then◌else◌}
use Rattle.std.specs.Str.{bytes_eq}
use Rattle.aeth_base.specs.{Faults.BrokenRule, Name.name_of, declared.ids.LinkId.LinkId}
use Rattle.aeth_base.specs.{declared.ids.Side.Side}
use Rattle.aeth_document.specs.Chain.{◌>>=◌}
use Rattle.aeth_text.specs.{Fields.ascending_in, Fields.links_in, Fields.number_in, Fields.side_in}
use Rattle.aeth_text.specs.{Grammar.behind, Grammar.field, Grammar.headed, Grammar.last_field}
use Rattle.aeth_text.specs.{Grammar.leading, Grammar.lines_of, Grammar.parts, Grammar.rest_of}
use Rattle.aeth_text.specs.{Limits.space, Order.line_after}
use Rattle.aeth_plan.specs.{declared.text.SeatText.SeatText, Layout.first_grant_line}
use Rattle.aeth_plan.specs.{Refusals.bad_line}

-- What a `grant` line says.
pub record GrantWords : Type 0 where
  pub conn : List ℕ
  pub group : ℕ
  pub side : Side
  pub links : List LinkId
  pub starts : List ℕ

-- What the lines of a plan text say.
pub record PlanWords : Type 0 where
  pub slots : ℕ
  pub seats : List SeatText
  pub grants : List GrantWords

-- `plan 1 SLOTS`.
unfoldable pub head_in : List ℕ → Option ℕ
head_in line = headed (codes "plan") (headed (codes "1") (last_field number_in)) (parts space line)

-- What the words of a `seat` line after its first say.
abbrev pub seat_text : List ℕ × (List ℕ × ℕ) → SeatText
seat_text f = record { core = f.0; ni = f.1.0; seat = f.1.1 }

-- `seat CORE NI SEAT`.
unfoldable pub seat_in : List ℕ → Option SeatText
seat_in line = option_map seat_text
    (headed (codes "seat") (field name_of (field name_of (last_field number_in)))
    (parts space line))

-- What the words of a `grant` line after its first say.
abbrev pub grant_text : List ℕ × (ℕ × (Side × (List LinkId × List ℕ))) → GrantWords
grant_text f = record {
  conn = f.0;
  group = f.1.0;
  side = f.1.1.0;
  links = f.1.1.1.0;
  starts = f.1.1.1.1;
}

-- `grant CONN GROUP SIDE LINKS STARTS`.
unfoldable pub grant_in : List ℕ → Option GrantWords
grant_in line = option_map grant_text
    (headed (codes "grant") (field name_of (field number_in (field side_in (field links_in
    (last_field ascending_in)))))
    (parts space line))

-- `end`.
unfoldable pub is_end : List ℕ → Bool
is_end line = bytes_eq line (codes "end")

-- Nothing stands behind the end; `line` is the number of the line after it.
abbrev pub ended : ℕ → List (List ℕ) → List ℕ → Result (Unit {0}) BrokenRule
ended line [] [] = Ok tt
ended line [] (byte ∷ rest) = Err (bad_line line)
ended line (other ∷ lines) rest = Err (bad_line line)

-- What is left of the lines, from the line of this number on, and what stands behind the last line
-- feed, are the end.
abbrev pub closed : ℕ → List (List ℕ) → List ℕ → Result (Unit {0}) BrokenRule
closed line [] rest = Err (bad_line line)
closed line (last ∷ lines) rest =
    if is_end last then ended (line_after line 1) lines rest else Err (bad_line line)

-- What the lines after the first say: seats as long as there are, then grants as long as there
-- are, then the end.
unfoldable pub body_in : ℕ → List (List ℕ) → List ℕ → Result PlanWords BrokenRule
body_in slots lines rest =
    closed (line_after (first_grant_line (leading seat_in lines))
    (length (leading grant_in (behind seat_in lines))))
    (behind grant_in (behind seat_in lines)) rest
    >>= (λ _. Ok (record {
      slots = slots;
      seats = leading seat_in lines;
      grants = leading grant_in (behind seat_in lines);
    }))

-- What the lines after the first say, where the first has its form.
abbrev pub with_head : Option ℕ → List (List ℕ) → List ℕ → Result PlanWords BrokenRule
with_head None lines rest = Err (bad_line 1)
with_head (Some slots) lines rest = body_in slots lines rest

-- What the lines of a text say, or the first that hasn't its form at its position.
abbrev pub text_in : List (List ℕ) → List ℕ → Result PlanWords BrokenRule
text_in [] rest = Err (bad_line 1)
text_in (first ∷ lines) rest = with_head (head_in first) lines rest

-- What a text says.
unfoldable pub text_of : List ℕ → Result PlanWords BrokenRule
text_of bytes = text_in (lines_of bytes) (rest_of bytes)
