-- Lists that are walked by place: starts of a set.
use Rattle.std.proofs.Common.{◌≡◌, ◌+◌, ◌<◌, ◌≤◌, ◌∙◌, ℕ, zero, suc, true, List, [], ◌∷◌, ◌++◌}
use Rattle.std.proofs.Common.{length, take, get_or, Option, Some, None, refl, sym, ap, subst, arith}
use Rattle.std.proofs.Common.{is_none, nat_le, nat_lt, option_map, append-nil, append_assoc}
use Rattle.std.proofs.lemmas.Bool.{and_from, and_parts, cond-true, Decides.nat_tests}
use Rattle.std.proofs.lemmas.List.{take_more}
use Rattle.std.specs.List.{list_all}
use Rattle.aeth_slots.specs.SlotSet.{Ascends}
use Rattle.aeth_slots.proofs.Ascending.{Ascends-push, Ascends-wider}
use Rattle.aeth_text.specs.{Fields.are_ascending, Fields.ascending_in, Fields.number_in}
use Rattle.aeth_text.specs.{Grammar.all_of, Grammar.both, Grammar.kept, Grammar.parts, Limits.comma}
use Rattle.aeth_text.specs.{Order.misplaced}
use Rattle.aeth_text.proofs.{Fronts.with_front, OrderLaws.none_misplaced, OrderLaws.rises}
use Rattle.aeth_plan.proofs.Places.{all_below, ascends, ascends_rises, is_none-None}

-- Starts that pass the tests of a line ascend below the size of a table.
pub starts_ascend : (high : ℕ) (starts : List ℕ) → are_ascending starts ≡ true
    → list_all (λ start. nat_lt start high) starts ≡ true → Ascends 0 high starts
starts_ascend high starts are below =
    let (some, rising) = and_parts (nat_le 1 (length starts)) _ are in
    ascends high starts (rises nat_lt 0 starts (is_none-None _ rising))
    (all_below (λ start. start) high starts below)

-- At least one start, ascending below the size of a table.
pub are_ascending-of : (high : ℕ) (starts : List ℕ) → 1 ≤ length starts → Ascends 0 high starts
    → are_ascending starts ≡ true
are_ascending-of high starts some asc =
    and_from (nat_le 1 (length starts)) (is_none (misplaced nat_lt 0 starts))
    (grind (arith, nat_tests))
    (ap is_none (none_misplaced nat_lt 0 starts (ascends_rises high starts asc)))

-- A number of an ascending list: those before it are less, and it is below the bound.
pub ascends_at : (low high : ℕ) (xs : List ℕ) (i : ℕ) → Ascends low high xs → i < length xs
    → Ascends low (get_or xs i 0) (take i xs) × (low ≤ get_or xs i 0) × (get_or xs i 0 < high)
ascends_at low high [] i asc within = absurd (omega arith)
ascends_at low high (x ∷ xs) zero asc within = (tt, asc.0, asc.1)
ascends_at low high (x ∷ xs) (suc i) asc within =
    let (before, least, below) = ascends_at (x + 1) high xs i asc.2 (omega arith) in
    ((asc.0, omega arith, before), omega (arith, asc.0), below)

-- The next start goes to the end of the set.
pub set_grows : (high : ℕ) (starts : List ℕ) (i : ℕ) (old new : List ℕ) → Ascends 0 high starts
    → i < length starts → old ≡ take i starts
    → (Ascends 0 (get_or starts i 0) old → new ≡ old ++ get_or starts i 0 ∷ [])
    → new ≡ take (i + 1) starts
set_grows high starts i old new asc within is last =
    let (before, least, below) = ascends_at 0 high starts i asc within in
    last (rw is before) ∙ ap (λ slots. slots ++ get_or starts i 0 ∷ []) is
    ∙ sym (take_more starts i 0 within)

ascends_parts : (low high : ℕ) (xs : List ℕ) (x : ℕ) (ys : List ℕ)
    → Ascends low high (xs ++ x ∷ ys) → Ascends low x xs × (low ≤ x) × (x < high)
ascends_parts low high [] x ys asc = (tt, asc.0, asc.1)
ascends_parts low high (w ∷ xs) x ys asc =
    let (before, least, below) = ascends_parts (w + 1) high xs x ys asc.2 in
    ((asc.0, omega arith, before), omega (arith, asc.0), below)

-- The first of the starts that are left: those so far are less, and it is below the bound.
pub start_among : (high : ℕ) (all old left : List ℕ) (x : ℕ) (rest : List ℕ) → Ascends 0 high all
    → old ++ left ≡ all → left ≡ x ∷ rest → Ascends 0 x old × (0 ≤ x) × (x < high)
start_among high all old left x rest asc so_far is =
    ascends_parts 0 high old x rest (subst (Ascends 0 high)
    (sym so_far ∙ ap (λ xs. old ++ xs) is) asc)

-- It goes to the end of those so far.
pub start_moves : (all old left : List ℕ) (x : ℕ) (rest new : List ℕ) → old ++ left ≡ all
    → left ≡ x ∷ rest → new ≡ old ++ x ∷ [] → new ++ rest ≡ all
start_moves all old left x rest new so_far is grows =
    ap (λ xs. xs ++ rest) grows ∙ append_assoc old (x ∷ []) rest
    ∙ ap (λ xs. old ++ xs) (sym is) ∙ so_far

-- One start more goes to the end of those that ascend.
pub ascends_on : (next n : ℕ) (old : List ℕ) → Ascends 0 next old → next ≤ n
    → Ascends 0 n old × Ascends 0 (n + 1) (old ++ n ∷ [])
ascends_on next n old asc least =
    let below = Ascends-wider 0 next 0 n old (omega arith) least asc in
    (below, Ascends-push 0 n old (omega arith) below)

-- The values so far with that of one word more, and those of the words that are left.
pub words_on : (read : List ℕ → Option ℕ) (front : List ℕ) (words rest : List (List ℕ))
    (word : List ℕ) (n : ℕ) (new : List ℕ) (total : Option (List ℕ)) → words ≡ word ∷ rest
    → read word ≡ Some n → new ≡ front ++ n ∷ [] → with_front front (all_of read words) ≡ total
    → with_front new (all_of read rest) ≡ total
words_on read front words rest word n new total is reads grows so_far =
    let cases : (later : Option (List ℕ))
    → with_front (front ++ n ∷ []) later
    ≡ with_front front (option_map (λ p. p.0 ∷ p.1) (both (Some n) later)) =
    elim [
      | None ↦ refl
      | Some ns ↦ ap (λ xs. Some xs) (append_assoc front (n ∷ []) ns)
    ]
    in ap (λ xs. with_front xs (all_of read rest)) grows
    ∙ cases (all_of read rest)
    ∙ ap (λ o. with_front front (option_map (λ p. p.0 ∷ p.1) (both o (all_of read rest))))
    (sym reads)
    ∙ ap (λ ws. with_front front (all_of read ws)) (sym is)
    ∙ so_far

-- Where no word is left, these are the starts of the word.
pub all_starts : (word starts : List ℕ) (words : List (List ℕ)) → words ≡ []
    → with_front starts (all_of number_in words) ≡ all_of number_in (parts comma word)
    → are_ascending starts ≡ true → ascending_in word ≡ Some starts
unfolding ascending_in
all_starts word starts words none so_far are =
    let all : all_of number_in (parts comma word) ≡ Some starts =
    sym so_far ∙ ap (λ ws. with_front starts (all_of number_in ws)) none
    ∙ ap (λ xs. Some xs) (append-nil starts) in
    ap (kept are_ascending) all ∙ cond-true (are_ascending starts) _ _ are
