-- The lines of a text, and what the lines of one form at the front say.
use Rattle.std.proofs.Common.{◌≡◌, ◌<◌, ◌∙◌, ℕ, List, [], ◌∷◌, ◌++◌, length, map, Option, Some}
use Rattle.std.proofs.Common.{None, refl, sym, ap, append_assoc, arith, eqb, flat_map}
use Rattle.std.proofs.Common.{length-append}
use Rattle.std.proofs.lemmas.List.Concat.{flat_map-cons}
use Rattle.std.proofs.lemmas.List.Splits.{join_with_byte-slice_split, length-slice_split}
use Rattle.std.specs.List.{AllByRecursion, join_with_byte}
use Rattle.aeth_text.specs.Grammar.{all_but_last, behind, last_part, leading, lines_of, here_or}
use Rattle.aeth_text.specs.Grammar.{parts, rest_of, with_first}
use Rattle.aeth_text.specs.Limits.{line_feed}
use Rattle.aeth_text.specs.Spelling.{ended_line}
use Rattle.aeth_text.proofs.{Readers.ReadsBack, PartLaws.Above, PartLaws.parts_again}

-- ---- Lines and their line feeds

-- A list with one more at its end.
abbrev with_last : List (List ℕ) → List ℕ → List (List ℕ)
with_last lines rest = lines ++ rest ∷ []

all_but_last-with_last : (lines : List (List ℕ)) (rest : List ℕ)
    → all_but_last (with_last lines rest) ≡ lines
all_but_last-with_last [] rest = refl
all_but_last-with_last (x ∷ []) rest = refl
all_but_last-with_last (x ∷ y ∷ ys) rest =
    ap (λ (zs : List (List ℕ)). x ∷ zs) (all_but_last-with_last (y ∷ ys) rest)

last_part-with_last : (lines : List (List ℕ)) (rest : List ℕ)
    → last_part (with_last lines rest) ≡ rest
last_part-with_last [] rest = refl
last_part-with_last (x ∷ []) rest = refl
last_part-with_last (x ∷ y ∷ ys) rest = last_part-with_last (y ∷ ys) rest

pub with_last-parts : (ps : List (List ℕ)) → 0 < length ps
    → with_last (all_but_last ps) (last_part ps) ≡ ps
with_last-parts [] some = absurd (omega arith)
with_last-parts (x ∷ []) some = refl
with_last-parts (x ∷ y ∷ ys) some =
    ap (λ (zs : List (List ℕ)). x ∷ zs) (with_last-parts (y ∷ ys) (omega arith))

-- The lines with their line feeds are the lines and an empty part, joined.
joined : (lines : List (List ℕ))
    → flat_map ended_line lines ≡ join_with_byte line_feed (with_last lines [])
joined [] = refl
joined (x ∷ []) = flat_map-cons ended_line x [] ∙ append_assoc x (line_feed ∷ []) []
joined (x ∷ y ∷ ys) =
    flat_map-cons ended_line x (y ∷ ys)
    ∙ append_assoc x (line_feed ∷ []) (flat_map ended_line (y ∷ ys))
    ∙ ap (λ (bytes : List ℕ). x ++ line_feed ∷ bytes) (joined (y ∷ ys))

above_last : (lines : List (List ℕ)) → AllByRecursion (Above line_feed) lines
    → AllByRecursion (Above line_feed) (with_last lines [])
above_last [] above = (tt, tt)
above_last (x ∷ xs) above = (above.0, above_last xs above.1)

parts_of_lines : (lines : List (List ℕ)) → AllByRecursion (Above line_feed) lines
    → parts line_feed (flat_map ended_line lines) ≡ with_last lines []
parts_of_lines lines above =
    ap (parts line_feed) (joined lines)
    ∙ parts_again line_feed (with_last lines [])
    (omega (arith, length-append lines ([] ∷ []))) (above_last lines above)

-- The lines of a text of lines are these.
pub lines_again : (lines : List (List ℕ)) → AllByRecursion (Above line_feed) lines
    → lines_of (flat_map ended_line lines) ≡ lines
unfolding lines_of
lines_again lines above =
    ap all_but_last (parts_of_lines lines above) ∙ all_but_last-with_last lines []

-- Nothing stands behind them.
pub rest_again : (lines : List (List ℕ)) → AllByRecursion (Above line_feed) lines
    → rest_of (flat_map ended_line lines) ≡ []
unfolding rest_of
rest_again lines above =
    ap last_part (parts_of_lines lines above) ∙ last_part-with_last lines []

-- A text with nothing behind its last line feed is its lines.
pub lines_only : (bytes : List ℕ) → rest_of bytes ≡ []
    → flat_map ended_line (lines_of bytes) ≡ bytes
unfolding lines_of rest_of
lines_only bytes none =
    let all = parts line_feed bytes in
    joined (all_but_last all)
    ∙ ap (λ rest. join_with_byte line_feed (with_last (all_but_last all) rest)) (sym none)
    ∙ ap (join_with_byte line_feed)
    (with_last-parts all
    (omega (arith, length-slice_split (λ (byte : ℕ). eqb byte line_feed) bytes)))
    ∙ join_with_byte-slice_split line_feed bytes

-- ---- Lines of one form at the front

-- No line of the form is the first.
abbrev pub Stops : {X : Type 0} → (List ℕ → Option X) → List (List ℕ) → Type 0
Stops read [] = Unit {0}
Stops read (line ∷ lines) = read line ≡ None

leading-stops : {X : Type 0} (read : List ℕ → Option X) (lines : List (List ℕ))
    → Stops read lines → leading read lines ≡ []
leading-stops read [] stops = refl
leading-stops read (line ∷ lines) stops = rw stops refl

behind-stops : {X : Type 0} (read : List ℕ → Option X) (lines : List (List ℕ))
    → Stops read lines → behind read lines ≡ lines
behind-stops read [] stops = refl
behind-stops read (line ∷ lines) stops = rw stops refl

module _ {X : Type 0} {Good : List ℕ → Type 0} {read : List ℕ → Option X} {write : X → List ℕ}
    {P : X → Type 0} (reads : ReadsBack Good read write P) where
  -- What was written at the front is read again, up to a line of another form.
  pub leading_again : (xs : List X) (lines : List (List ℕ)) → AllByRecursion P xs
      → Stops read lines → leading read (map write xs ++ lines) ≡ xs
  leading_again [] lines has stops = leading-stops read lines stops
  leading_again (x ∷ xs) lines has stops =
      rw (reads.again x has.0, leading_again xs lines has.1 stops) refl

  pub behind_again : (xs : List X) (lines : List (List ℕ)) → AllByRecursion P xs
      → Stops read lines → behind read (map write xs ++ lines) ≡ lines
  behind_again [] lines has stops = behind-stops read lines stops
  behind_again (x ∷ xs) lines has stops =
      rw (reads.again x has.0, behind_again xs lines has.1 stops) refl

  -- The lines are those at the front, written again, and those behind.
  pub leading_only : (lines : List (List ℕ))
      → (map write (leading read lines) ++ behind read lines ≡ lines)
      × AllByRecursion P (leading read lines)
  leading_only [] = (refl, tt)
  leading_only (line ∷ lines) =
      let later = leading_only lines in
      let cases : (o : Option X) → read line ≡ o
      → (map write (with_first o (leading read lines))
      ++ here_or o (line ∷ lines) (behind read lines) ≡ (line ∷ lines))
      × AllByRecursion P (with_first o (leading read lines)) =
      elim [
        | None ↦ λ is. (refl, tt)
        | Some x ↦ λ is.
            let (same, has) = reads.only line x is in
            (rw (same, later.0) refl, (has, later.1))
      ]
      in cases (read line) refl

-- ---- Lines, one after the other

cut_parts : (line : List ℕ) (ps qs : List (List ℕ)) → 0 < length qs → ps ≡ line ∷ qs
    → (all_but_last ps ≡ line ∷ all_but_last qs) × (last_part ps ≡ last_part qs)
cut_parts line ps [] some is = absurd (omega arith)
cut_parts line ps (q ∷ qs) some is = (ap all_but_last is, ap last_part is)

some_parts : (text : List ℕ) → 0 < length (parts line_feed text)
some_parts text =
    omega (arith, length-slice_split (λ (byte : ℕ). eqb byte line_feed) text)

-- A text that is cut at its first line feed.
pub lines_cut : (text line rest : List ℕ) → parts line_feed text ≡ line ∷ parts line_feed rest
    → (lines_of text ≡ line ∷ lines_of rest) × (rest_of text ≡ rest_of rest)
unfolding lines_of rest_of
lines_cut text line rest is =
    cut_parts line (parts line_feed text) (parts line_feed rest) (some_parts rest) is

-- A text without a line feed.
pub lines_none : (text : List ℕ) → parts line_feed text ≡ text ∷ []
    → (lines_of text ≡ []) × (rest_of text ≡ text)
unfolding lines_of rest_of
lines_none text is = (ap all_but_last is, ap last_part is)
