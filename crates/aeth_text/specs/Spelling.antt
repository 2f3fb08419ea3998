-- The words of the fields again, from what they say, and the lines of a text.
--
--   side_word, link_word, links_word, numbers_word      the words of the fields
--   item      a word of a list that is printed word by word
--   ended_line, text_of_lines      a line with its line feed, and a text
-- This project's own.
use Rattle.std.proofs.Common.{ℕ, Bool, true, false, List, [], ◌∷◌, ◌++◌, codes, decimal, flat_map}
use Rattle.std.proofs.Common.{map}
use Rattle.std.specs.List.{join_with_byte}
use Rattle.aeth_base.specs.declared.ids.LinkId.{LinkId}
use Rattle.aeth_base.specs.declared.ids.Side.{Side, TheVariants.Fwd, TheVariants.Back}
use Rattle.aeth_text.specs.Limits.{comma, line_feed}

-- The word of a side.
unfoldable pub side_word : Side → List ℕ
side_word Fwd = codes "fwd"
side_word Back = codes "back"

-- The word of a link: its number.
abbrev pub link_word : LinkId → List ℕ
link_word link = decimal link.0

-- The word of a path: its links with commas between.
unfoldable pub links_word : List LinkId → List ℕ
links_word links = join_with_byte comma (map link_word links)

-- The word of a list of numbers: the numbers with commas between.
unfoldable pub numbers_word : List ℕ → List ℕ
numbers_word numbers = join_with_byte comma (map decimal numbers)

-- A word of a list: the first, or one after another.
abbrev pub item : Bool → List ℕ → List ℕ
item true word = word
item false word = comma ∷ word

-- A line with its line feed.
abbrev pub ended_line : List ℕ → List ℕ
ended_line line = line ++ line_feed ∷ []

-- The text of these lines, each with its line feed.
abbrev pub text_of_lines : List (List ℕ) → List ℕ
text_of_lines lines = flat_map ended_line lines
