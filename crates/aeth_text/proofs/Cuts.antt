-- A text that is cut at its first separator.
use Rattle.std.proofs.Common.{◌≡◌, ◌≢◌, ◌+◌, ◌-◌, ◌<◌, ◌≤◌, ℕ, Bool, List, [], ◌∷◌, length, take}
use Rattle.std.proofs.Common.{drop, eqb, get_or, subst, sym, inl, inr, arith, eq-eqb, ne_eqb}
use Rattle.std.proofs.Common.{length-drop, take_all}
use Rattle.std.proofs.lemmas.{Bool.cases_eq, List.get_or_default, List.Splits.slice_split_first}
use Rattle.std.proofs.lemmas.{List.Splits.slice_split_none, List.Sums.position_or_len_is}
use Rattle.memchr.specs.Find.{Nowhere, Passes, is_byte}
use Rattle.aeth_text.specs.Grammar.{parts}

-- No byte before a place is the separator.
abbrev pub IsFreeBefore : ℕ → List ℕ → ℕ → Type 0
IsFreeBefore separator text place = (k : ℕ) → k < place → get_or text k 0 ≢ separator

-- No byte passes there the test that it is the separator.
pub free_before : (separator : ℕ) (text : List ℕ) (place : ℕ)
    → Nowhere (Passes (is_byte separator) text) 0 place → IsFreeBefore separator text place
free_before separator text place none k less = λ here.
    none k (omega arith) less (eq-eqb _ separator here)

-- With one more byte that isn't.
pub free_further : (separator : ℕ) (text : List ℕ) (place : ℕ) → IsFreeBefore separator text place
    → get_or text place 0 ≢ separator → IsFreeBefore separator text (place + 1)
free_further separator text place free here k less = elim (cases_eq k place) [
  | inl same ↦ subst (λ (j : ℕ). get_or text j 0 ≢ separator) (sym same) here
  | inr other ↦ free k (omega arith)
]

-- Up to its first separator a text is its first part.
pub parts_at : (separator : ℕ) (text : List ℕ) (place : ℕ) → place < length text
    → IsFreeBefore separator text place → get_or text place 0 ≡ separator
    → parts separator text ≡ take place text
    ∷ parts separator (take (length text - (place + 1)) (drop (place + 1) text))
parts_at separator text place within free here =
    let test : ℕ → Bool = λ byte. eqb byte separator in
    let at = position_or_len_is test text place 0 (omega arith)
    (λ k less. ne_eqb _ separator (free k less)) (λ w. eq-eqb _ separator here) in
    let rest : take (length text - (place + 1)) (drop (place + 1) text) ≡ drop (place + 1) text =
    take_all (length text - (place + 1)) (drop (place + 1) text)
    (omega (arith, length-drop (place + 1) text)) in
    let split = slice_split_first test text 0 (omega (arith, at)) in
    rw rest (rw at at split)

-- A text without a separator is its only part.
pub parts_none : (separator : ℕ) (text : List ℕ) (place : ℕ) → length text ≤ place
    → IsFreeBefore separator text place → parts separator text ≡ text ∷ []
parts_none separator text place whole free =
    slice_split_none (λ byte. eqb byte separator) text (λ k d within.
    rw (get_or_default text k d 0 within) (ne_eqb _ separator (free k (omega arith))))
