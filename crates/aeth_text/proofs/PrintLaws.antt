-- Lists that are printed word by word, with commas between.
use Rattle.std.proofs.Common.{◌≡◌, ◌≤◌, ◌∙◌, ℕ, Bool, true, false, List, [], ◌∷◌, ◌++◌, arith}
use Rattle.std.proofs.Common.{length, take, refl, sym, ap, append_assoc, flat_map, append-nil}
use Rattle.std.proofs.Common.{length-take}
use Rattle.std.proofs.lemmas.List.{take-append-le}
use Rattle.std.specs.List.{join_with_byte}
use Rattle.aeth_text.specs.{Limits.comma, Spelling.item}

-- ---- Commas

-- The words of a list that are still to be printed.
abbrev pub joined_on : Bool → List (List ℕ) → List ℕ
joined_on true words = join_with_byte comma words
joined_on false words = flat_map (λ word. comma ∷ word) words

join-cons : (word : List ℕ) (words : List (List ℕ))
    → join_with_byte comma (word ∷ words) ≡ word ++ joined_on false words
join-cons word [] = sym (append-nil word)
join-cons word (next ∷ words) =
    ap (λ text. word ++ comma ∷ text) (join-cons next words)

item_on : (first : Bool) (word : List ℕ) (words : List (List ℕ))
    → joined_on first (word ∷ words) ≡ item first word ++ joined_on false words
item_on true word words = join-cons word words
item_on false word words = refl

-- One word more is printed.
pub item_step : (out new : List ℕ) (first : Bool) (word : List ℕ) (words : List (List ℕ))
    (total : List ℕ) → new ≡ out ++ item first word → out ++ joined_on first (word ∷ words) ≡ total
    → new ++ joined_on false words ≡ total
item_step out new first word words total is so_far =
    ap (λ text. text ++ joined_on false words) is
    ∙ append_assoc out (item first word) (joined_on false words)
    ∙ ap (λ text. out ++ text) (sym (item_on first word words)) ∙ so_far

-- ---- What stood in a text

-- All of it stood there, so it isn't longer.
front_within : (old now : List ℕ) → take (length old) now ≡ old → length old ≤ length now
front_within old now front =
    let size : length (take (length old) now) ≡ length old = ap length front in
    let least = length-take (length old) now in
    omega (arith, size, least)

-- What stood in front still does where more is appended.
pub front_longer : (old now new more : List ℕ) → take (length old) now ≡ old → new ≡ now ++ more
    → take (length old) new ≡ old
front_longer old now new more front is =
    ap (take (length old)) is
    ∙ take-append-le (length old) now more (front_within old now front) ∙ front
