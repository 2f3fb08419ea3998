-- Pieces of texts: numbered names, and lists of them.
-- This project's own.
use Rattle.std.proofs.Common.{ℕ, ◌+◌, ◌++◌, ◌==◌, List, [], codes, decimal, flat_map, if◌then◌else◌}
use Rattle.std.specs.List.{range_with_len}

-- The texts of the numbers below a count, one after the other.
unfoldable pub texts_below : (ℕ → List ℕ) → ℕ → List ℕ
texts_below text count = flat_map text (range_with_len 0 count)

-- A text before a number and the number.
abbrev pub labelled : List ℕ → ℕ → List ℕ
labelled label n = label ++ decimal n

-- A comma and a space stand before each item but the first.
abbrev pub comma_before : ℕ → List ℕ
comma_before place = if place == 0 then [] else codes ", "

-- The name of a letter and a number, in quotes.
abbrev pub quoted_name : List ℕ → ℕ → List ℕ
quoted_name letter n = codes "\"" ++ letter ++ decimal n ++ codes "\""

-- Such a name at a place of a list that begins with a first number.
abbrev pub name_at : List ℕ → ℕ → ℕ → List ℕ
name_at letter first place = comma_before place ++ quoted_name letter (first + place)

-- Such names, of so many numbers from a first one on, with commas between them.
abbrev pub names_text : List ℕ → ℕ → ℕ → List ℕ
names_text letter first count = texts_below (name_at letter first) count
