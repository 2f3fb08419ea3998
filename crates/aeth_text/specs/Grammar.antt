-- Texts of lines, words and lists: the parts of a text between separators, and the fields of a list
-- of words.
--
--   parts, lines_of, rest_of      the parts of a text, and its lines
--   kept, both, all_of      a value under a test, two values, and all values of a list
--   headed, field, last_field      the words of a line, from the first on
--   leading, behind      the lines of one form at the front, and those after them
--   words_left      what is left of a line that is read word by word
-- This project's own.
use Rattle.std.proofs.Common.{ℕ, ◌==◌, Bool, List, [], ◌∷◌, Option, Some, None, option_map}
use Rattle.std.proofs.Common.{if◌then◌else◌}
use Rattle.std.specs.{Borrow.Bor, List.slice_split, Str.bytes_eq}
use Rattle.aeth_text.specs.Limits.{line_feed}

-- The parts of a text between its separators: one more than there are separators.
abbrev pub parts : ℕ → List ℕ → List (List ℕ)
parts separator text = slice_split (λ byte. byte == separator) text

-- All but the last of a list.
abbrev pub all_but_last : {X : Type 0} → List X → List X
all_but_last [] = []
all_but_last (x ∷ []) = []
all_but_last (x ∷ y ∷ ys) = x ∷ all_but_last (y ∷ ys)

-- The last of a list of parts.
abbrev pub last_part : List (List ℕ) → List ℕ
last_part [] = []
last_part (x ∷ []) = x
last_part (x ∷ y ∷ ys) = last_part (y ∷ ys)

-- The lines of a text: what stands before each of its line feeds.
unfoldable pub lines_of : List ℕ → List (List ℕ)
lines_of text = all_but_last (parts line_feed text)

-- What stands behind the last line feed of a text.
unfoldable pub rest_of : List ℕ → List ℕ
rest_of text = last_part (parts line_feed text)

-- A value that passes a test.
abbrev pub kept : {X : Type 0} → (X → Bool) → Option X → Option X
kept test None = None
kept test (Some x) = if test x then Some x else None

-- Two values, where there are both.
abbrev pub both : {X Y : Type 0} → Option X → Option Y → Option (X × Y)
both None second = None
both (Some x) None = None
both (Some x) (Some y) = Some (x, y)

-- The values of all words of a list, where each has one.
abbrev pub all_of : {X : Type 0} → (List ℕ → Option X) → List (List ℕ) → Option (List X)
all_of read [] = Some []
all_of read (word ∷ words) = option_map (λ p. p.0 ∷ p.1) (both (read word) (all_of read words))

-- A line whose first word is this one.
abbrev pub headed : {X : Type 0} → List ℕ → (List (List ℕ) → Option X) → List (List ℕ) → Option X
headed first more [] = None
headed first more (word ∷ words) = if bytes_eq word first then more words else None

-- A field, and more fields after it.
abbrev pub field : {X Y : Type 0} → (List ℕ → Option X) → (List (List ℕ) → Option Y)
    → List (List ℕ) → Option (X × Y)
field read more [] = None
field read more (word ∷ words) = both (read word) (more words)

-- A field with no word after it.
abbrev pub last_field : {X : Type 0} → (List ℕ → Option X) → List (List ℕ) → Option X
last_field read [] = None
last_field read (word ∷ []) = read word
last_field read (word ∷ other ∷ words) = None

-- A value before others, where there is one, and else none of them.
abbrev pub with_first : {X : Type 0} → Option X → List X → List X
with_first None later = []
with_first (Some x) later = x ∷ later

-- What the lines at the front say, as long as each has the form.
abbrev pub leading : {X : Type 0} → (List ℕ → Option X) → List (List ℕ) → List X
leading read [] = []
leading read (line ∷ lines) = with_first (read line) (leading read lines)

-- The lines from here on where there is no value, and else those from later on.
abbrev pub here_or : {X : Type 0} → Option X → List (List ℕ) → List (List ℕ) → List (List ℕ)
here_or None here later = here
here_or (Some x) here later = later

-- The lines from the first on that hasn't the form.
abbrev pub behind : {X : Type 0} → (List ℕ → Option X) → List (List ℕ) → List (List ℕ)
behind read [] = []
behind read (line ∷ lines) = here_or (read line) (line ∷ lines) (behind read lines)

-- The words that are left of a line, of which none, or this text, is left.
abbrev pub words_left : ℕ → Option (Bor (List ℕ)) → List (List ℕ)
words_left separator None = []
words_left separator (Some text) = parts separator text.now
