-- Words of a command line: numbers in a range, lists of slots, names of files.
-- This project's own.
use Rattle.std.specs.Prelude.{ℕ, ◌+◌, ◌-◌, ◌&&◌, ◌==◌, nat_le, if◌then◌else◌, List, [], ◌∷◌, Option}
use Rattle.std.specs.Prelude.{Some, None, codes}
use Rattle.std.specs.Option.{option_and_then, option_map}
use Rattle.std.specs.List.{slice_split}
use Rattle.std.specs.Str.{bytes_eq}
use Rattle.aeth_base.specs.Number.{number_of}
use Rattle.aeth_slots.specs.SlotSet.{Slots}
use Rattle.aeth_text.specs.Limits.{comma}

-- A value, and then what comes of it; none where there is none.
infixl 10 ◌>>=◌
abbrev pub ◌>>=◌ : {A B : Type 0} → Option A → (A → Option B) → Option B
value >>= next = option_and_then next value

-- A number, where it lies between two bounds.
abbrev pub bounded : ℕ → ℕ → ℕ → Option ℕ
bounded low high n = if nat_le low n && nat_le n high then Some n else None

-- The number whose canonical decimal a text is, where it lies between two bounds.
abbrev pub number_within : ℕ → ℕ → List ℕ → Option ℕ
number_within low high text = option_and_then (bounded low high) (number_of text)

-- The slots that texts are: each at least `least`, above the one before, and below the size.
abbrev pub rising_slots : ℕ → ℕ → List (List ℕ) → Option (List ℕ)
rising_slots size least [] = Some []
rising_slots size least (text ∷ rest) =
    option_and_then
    (λ slot. option_map (λ slots. slot ∷ slots) (rising_slots size (slot + 1) rest))
    (number_within least (size - 1) text)

-- The slots of a word: a comma list, strictly ascending and below the size, or `-` for none.
abbrev pub slots_of : ℕ → List ℕ → Option (List ℕ)
slots_of size word =
    if bytes_eq word (codes "-") then Some []
    else rising_slots size 0 (slice_split (λ byte. byte == comma) word)

-- The same as a slot set of that table.
abbrev pub slot_set_of : ℕ → List ℕ → Option Slots
slot_set_of size word =
    option_map (λ slots. record { size = size; slots = slots }) (slots_of size word)

-- The name of a file: any word but the empty one.
abbrev pub file_name_of : List ℕ → Option (List ℕ)
file_name_of [] = None
file_name_of (byte ∷ rest) = Some (byte ∷ rest)
