-- Laws of a list of slots that is read piece by piece.
use Rattle.std.proofs.Common.{◌≡◌, ◌∙◌, ℕ, ◌+◌, ◌-◌, ◌<◌, ◌≤◌, ◌++◌, List, [], ◌∷◌, length, drop}
use Rattle.std.proofs.Common.{get_or, Bool, true, false, ◌&&◌, cond, eqb, leb, Option, Some, None}
use Rattle.std.proofs.Common.{ap, sym, refl, append_assoc, append-nil, codes, leb-true}
use Rattle.std.proofs.lemmas.{Bool.and_parts, List.at_drop_more, List.at_drop_all, Option.none-some}
use Rattle.std.proofs.lemmas.{Option.option_and_then_some, Option.same_Some}
use Rattle.std.specs.{Option.option_and_then, Option.option_map, List.slice_split, Str.bytes_eq}
use Rattle.aeth_slots.specs.SlotSet.{Slots}
use Rattle.aeth_base.specs.Number.{number_of}
use Rattle.aeth_text.specs.Limits.{comma}
use Rattle.aeth_answers.specs.Words.{bounded, number_within, rising_slots, slot_set_of}

-- After some of the pieces their slots are read, and the next one is at least the least.
pub record IsReadSoFar (size : ℕ) (pieces : List (List ℕ)) (count least : ℕ) (slots : List ℕ)
    : Type 0 where
  pub left : rising_slots size 0 pieces
      ≡ option_map (λ rest. slots ++ rest) (rising_slots size least (drop count pieces))

-- What is put behind a list one after the other is put behind it together.
option_map-push : (slots : List ℕ) (slot : ℕ) (read : Option (List ℕ))
    → option_map (λ rest. slots ++ rest) (option_map (λ rest. slot ∷ rest) read)
    ≡ option_map (λ rest. (slots ++ slot ∷ []) ++ rest) read
option_map-push slots slot None = refl
option_map-push slots slot (Some rest) = ap Some (sym (append_assoc slots (slot ∷ []) rest))

-- A number that is read between two bounds lies there.
pub number_within-bounds : (low high : ℕ) (text : List ℕ) (n : ℕ)
    → number_within low high text ≡ Some n → (low ≤ n) × (n ≤ high)
number_within-bounds low high text n read =
    option_and_then_some (bounded low high) (number_of text) n read (λ m is_m within.
    let cases : (passes : Bool) → (leb low m && leb m high) ≡ passes
    → cond passes (Some m) None ≡ Some n → (low ≤ n) × (n ≤ high) =
    elim [
      | true ↦ λ test same.
          let parts = and_parts (leb low m) (leb m high) test in
          rw (← same_Some m n same) (leb-true low m parts.0, leb-true m high parts.1)
      | false ↦ λ test none. absurd (none-some n none)
    ]
    in cases (leb low m && leb m high) refl within)

-- Where the next piece is a slot, it is read, and put behind those before.
pub read-more : (size : ℕ) (pieces : List (List ℕ)) (count least slot : ℕ) (slots piece : List ℕ)
    → IsReadSoFar size pieces count least slots
    → count < length pieces → piece ≡ get_or pieces count piece
    → number_within least (size - 1) piece ≡ Some slot
    → (gone : ℕ) (more : List ℕ) → gone ≡ count + 1 → more ≡ slots ++ slot ∷ []
    → IsReadSoFar size pieces gone (slot + 1) more
read-more size pieces count least slot slots piece read within here is_slot gone more one_on put =
    let rest = drop (count + 1) pieces in
    let next = λ (s : ℕ). option_map (λ later. s ∷ later) (rising_slots size (s + 1) rest) in
    let opened = at_drop_more (rising_slots size least) pieces count piece within in
    let piece_is = ap (λ text. rising_slots size least (text ∷ rest)) (sym here) in
    let slot_is = ap (option_and_then next) is_slot in
    rw (one_on, put) (record {
      left = read.left ∙ ap (option_map (λ later. slots ++ later)) (opened ∙ piece_is ∙ slot_is)
          ∙ option_map-push slots slot (rising_slots size (slot + 1) rest);
    })

-- Where the next piece is no slot, there is no list.
pub read-none : (size : ℕ) (pieces : List (List ℕ)) (count least : ℕ) (slots piece : List ℕ)
    → IsReadSoFar size pieces count least slots
    → count < length pieces → piece ≡ get_or pieces count piece
    → number_within least (size - 1) piece ≡ None
    → rising_slots size 0 pieces ≡ None
read-none size pieces count least slots piece read within here no_slot =
    let rest = drop (count + 1) pieces in
    let next = λ (s : ℕ). option_map (λ later. s ∷ later) (rising_slots size (s + 1) rest) in
    let opened = at_drop_more (rising_slots size least) pieces count piece within in
    let piece_is = ap (λ text. rising_slots size least (text ∷ rest)) (sym here) in
    let none_is = ap (option_and_then next) no_slot in
    read.left ∙ ap (option_map (λ later. slots ++ later)) (opened ∙ piece_is ∙ none_is)

-- After all pieces the slots are the list.
pub read-all : (size : ℕ) (pieces : List (List ℕ)) (count least : ℕ) (slots : List ℕ)
    → IsReadSoFar size pieces count least slots → length pieces ≤ count
    → rising_slots size 0 pieces ≡ Some slots
read-all size pieces count least slots read ended =
    read.left
    ∙ ap (option_map (λ later. slots ++ later))
    (at_drop_all (rising_slots size least) pieces count ended)
    ∙ ap Some (append-nil slots)

-- A word that isn't `-` is read by its pieces.
pub slot_set_of-list : (size : ℕ) (word : List ℕ) (read : Option (List ℕ))
    → false ≡ bytes_eq word (codes "-")
    → rising_slots size 0 (slice_split (λ byte. eqb byte comma) word) ≡ read
    → slot_set_of size word
    ≡ option_map (λ slots. let set : Slots = record { size = size; slots = slots } in set) read
slot_set_of-list size word read no_dash is_read = rw (← no_dash, is_read) refl
