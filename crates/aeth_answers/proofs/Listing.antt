-- Laws of lists that are put into a text one by one.
use Rattle.std.proofs.Common.{◌≡◌, ◌∙◌, ◌<◌, ◌+◌, ℕ, ◌++◌, List, [], ◌∷◌, length, map, take, ap}
use Rattle.std.proofs.Common.{sym, inl, inr, append-nil, arith, slice_get, IfSome, map-id}
use Rattle.std.proofs.lemmas.{List.flat_map_more, List.take_more, Option.slice_get_cases}
use Rattle.std.specs.{Fmt.decimal, List.flat_map, List.join_with_byte}
use Rattle.aeth_text.specs.Limits.{comma}
use Rattle.aeth_answers.specs.Text.{list_text}

-- What is joined by a byte is the first piece, and then the byte and a piece for each other one.
join_with_byte-cons : (byte : ℕ) (text : ℕ → List ℕ) (x : ℕ) (xs : List ℕ)
    → join_with_byte byte (map text (x ∷ xs)) ≡ text x ++ flat_map (λ y. byte ∷ text y) xs
join_with_byte-cons byte text x [] = sym (append-nil (text x))
join_with_byte-cons byte text x (y ∷ ys) =
    ap (λ rest. text x ++ byte ∷ rest) (join_with_byte-cons byte text y ys)

-- The text of a list that was gone through from its second number on.
pub list_text-cons : (slots : List ℕ) (first : ℕ) (rest gone : List ℕ)
    → slots ≡ first ∷ rest → map (λ (n : ℕ). n) gone ≡ rest
    → decimal first ++ flat_map (λ n. comma ∷ decimal n) gone ≡ list_text slots
list_text-cons slots first rest gone starts goes =
    let same : gone ≡ rest = sym (map-id gone) ∙ goes in
    rw (starts, same) (sym (join_with_byte-cons comma (λ n. decimal n) first rest))

-- What is put behind the texts of the first items for the next one stands behind them.
pub flat_map-take_more : {X : Type 0} (f : X → List ℕ) (text before after : List ℕ) (xs : List X)
    (i : ℕ) → i < length xs → before ≡ text ++ flat_map f (take i xs)
    → IfSome (slice_get xs i) (λ x. after ≡ before ++ f x)
    → after ≡ text ++ flat_map f (take (i + 1) xs)
flat_map-take_more f text before after xs i inside gone put =
    elim ((slice_get_cases xs i).1) [
      | inl found ↦
          let x = found.0 in
          let here : after ≡ before ++ f x = rw found.2 at put in
          let next = take_more xs i x inside in
          here ∙ ap (λ front. front ++ f x) gone ∙ flat_map_more f text (take i xs) x
          ∙ ap (λ items. text ++ flat_map f items)
          (ap (λ last. take i xs ++ last ∷ []) (sym found.3) ∙ sym next)
      | inr past ↦ absurd (omega (arith, inside, past.0))
    ]
