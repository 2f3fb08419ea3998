-- The lines and the text of a plan again, from what they say; and what has a text.
--
--   head_line, seat_line, grant_line      the lines
--   lines_from, text_from      the lines of a text, and the text
--   IsSeatText, IsGrantText, IsText      what has a text
-- This project's own.
use Rattle.std.proofs.Common.{ℕ, ◌≤◌, List, [], ◌∷◌, ◌++◌, codes, decimal, map, IsTrue}
use Rattle.std.specs.List.{AllByRecursion, join_with_byte}
use Rattle.aeth_base.specs.Name.{is_name}
use Rattle.aeth_text.specs.Fields.{are_ascending, is_path}
use Rattle.aeth_text.specs.Limits.{max_number, space}
use Rattle.aeth_text.specs.Spelling.{links_word, numbers_word, side_word, text_of_lines}
use Rattle.aeth_plan.specs.{declared.text.SeatText.SeatText, Lines.GrantWords, Lines.PlanWords}

-- `plan 1 SLOTS`.
unfoldable pub head_line : ℕ → List ℕ
head_line slots = join_with_byte space (codes "plan" ∷ codes "1" ∷ decimal slots ∷ [])

-- `seat CORE NI SEAT`.
unfoldable pub seat_line : SeatText → List ℕ
seat_line seat =
    join_with_byte space (codes "seat" ∷ seat.core ∷ seat.ni ∷ decimal seat.seat ∷ [])

-- `grant CONN GROUP SIDE LINKS STARTS`.
unfoldable pub grant_line : GrantWords → List ℕ
grant_line grant = join_with_byte space (codes "grant" ∷ grant.conn ∷ decimal grant.group
    ∷ side_word grant.side ∷ links_word grant.links ∷ numbers_word grant.starts ∷ [])

-- The lines of a plan text.
unfoldable pub lines_from : PlanWords → List (List ℕ)
lines_from text = head_line text.slots
    ∷ (map seat_line text.seats ++ (map grant_line text.grants ++ codes "end" ∷ []))

-- The text of these lines, each with its line feed.
abbrev pub text_from : PlanWords → List ℕ
text_from text = text_of_lines (lines_from text)

-- What a `seat` line can say: the names are names, and the number is one that a text may have.
pub record IsSeatText (text : SeatText) : Type 0 where
  pub core : IsTrue (is_name text.core)
  pub ni : IsTrue (is_name text.ni)
  pub seat : text.seat ≤ max_number

-- What a `grant` line can say.
pub record IsGrantText (text : GrantWords) : Type 0 where
  pub conn : IsTrue (is_name text.conn)
  pub group : text.group ≤ max_number
  pub links : AllByRecursion (λ link. link.0 ≤ max_number) text.links
  pub is_path : IsTrue (is_path text.links)
  pub starts : AllByRecursion (λ start. start ≤ max_number) text.starts
  pub ascending : IsTrue (are_ascending text.starts)

-- What the lines of a plan text can say.
pub record IsText (text : PlanWords) : Type 0 where
  pub slots : text.slots ≤ max_number
  pub seats : AllByRecursion IsSeatText text.seats
  pub grants : AllByRecursion IsGrantText text.grants
