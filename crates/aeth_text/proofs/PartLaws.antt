-- The parts of a text between separators: what is joined is cut again.
use Rattle.std.proofs.Common.{◌≡◌, ◌<◌, ◌≤◌, ◌∙◌, ℕ, false, List, [], ◌∷◌, ◌++◌, length, Option}
use Rattle.std.proofs.Common.{refl, ap, eqb, arith, ne_eqb, eq-eqb}
use Rattle.std.proofs.lemmas.List.{Elements.All-from_recursion, Splits.join_with_byte-slice_split}
use Rattle.std.proofs.lemmas.List.{Splits.slice_split_at, Splits.slice_split_none}
use Rattle.std.specs.List.{AllByRecursion, join_with_byte}
use Rattle.aeth_text.{specs.Grammar.parts, proofs.Readers.ReadsBack}

-- All bytes of a text are above a byte.
abbrev pub Above : ℕ → List ℕ → Type 0
Above low text = AllByRecursion (λ byte. low < byte) text

Above-append : (low : ℕ) (xs ys : List ℕ) → Above low xs → Above low ys → Above low (xs ++ ys)
Above-append low [] ys first then = then
Above-append low (x ∷ xs) ys first then = (first.0, Above-append low xs ys first.1 then)

-- What is above a byte is above a lesser one.
pub Above-less : (low high : ℕ) (xs : List ℕ) → low ≤ high → Above high xs → Above low xs
Above-less low high [] less above = tt
Above-less low high (x ∷ xs) less above =
    (omega (arith, above.0), Above-less low high xs less above.1)

-- A byte that lies below all bytes of a text isn't among them.
lacks : (low : ℕ) (xs : List ℕ) → Above low xs → AllByRecursion (λ x. eqb x low ≡ false) xs
lacks low [] above = tt
lacks low (x ∷ xs) above =
    (ne_eqb x low (λ same. absurd (omega (arith, same, above.0))), lacks low xs above.1)

-- The parts of joined words are the words.
pub parts_again : (low : ℕ) (ws : List (List ℕ)) → 0 < length ws
    → AllByRecursion (Above low) ws → parts low (join_with_byte low ws) ≡ ws
parts_again low [] some above = absurd (omega arith)
parts_again low (w ∷ []) some above =
    slice_split_none (λ b. eqb b low) w (All-from_recursion _ w (lacks low w above.0))
parts_again low (w ∷ v ∷ ws) some above =
    slice_split_at (λ b. eqb b low) w low (join_with_byte low (v ∷ ws))
    (All-from_recursion _ w (lacks low w above.0)) (eq-eqb low low refl)
    ∙ ap (λ (vs : List (List ℕ)). w ∷ vs) (parts_again low (v ∷ ws) (omega arith) above.1)

-- Joined words are above a lesser byte.
pub Above-join : (low sep : ℕ) (ws : List (List ℕ)) → low < sep → AllByRecursion (Above sep) ws
    → Above low (join_with_byte sep ws)
Above-join low sep [] less above = tt
Above-join low sep (w ∷ []) less above = Above-less low sep w (omega arith) above.0
Above-join low sep (w ∷ v ∷ ws) less above =
    Above-append low w (sep ∷ join_with_byte sep (v ∷ ws))
    (Above-less low sep w (omega arith) above.0)
    (less, Above-join low sep (v ∷ ws) less above.1)

-- A text of which the parts are read.
pub reads_parts : {X : Type 0} {read : List (List ℕ) → Option X} {write : X → List (List ℕ)}
    {P : X → Type 0} (low sep : ℕ) → low < sep → ((x : X) → P x → 0 < length (write x))
    → ReadsBack (AllByRecursion (Above sep)) read write P
    → ReadsBack (Above low) (λ text. read (parts sep text)) (λ x. join_with_byte sep (write x)) P
reads_parts {read} {write} {P} low sep less some reads = record {
  again = λ x has. rw (parts_again sep (write x) (some x has) (reads.good x has))
      (reads.again x has);
  only = λ text x e. let (same, has) = reads.only (parts sep text) x e in
      (ap (join_with_byte sep) same ∙ join_with_byte-slice_split sep text, has);
  good = λ x has. Above-join low sep (write x) less (reads.good x has);
}
