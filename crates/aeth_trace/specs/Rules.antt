-- The rules that all trace files have. Rows count from 1.
--
--   table_of      rule 1: the rows under the header
--   are_known, are_in_order, are_few      rules 2, 3 and 5
-- This project's own.
use Rattle.std.proofs.Common.{ℕ, ◌+◌, Bool, List, [], ◌∷◌, nat_le, nat_lt, Option, Some, None}
use Rattle.std.proofs.Common.{Result, Ok, Err, if◌then◌else◌}
use Rattle.aeth_base.specs.Faults.{BrokenRule}
use Rattle.aeth_document.specs.Chain.{◌>>=◌}
use Rattle.aeth_trace.specs.Fault.{bad_row, out_of_order, too_many, unknown}

-- A row before those after it; or the row is a bad one.
abbrev pub row_before : {A : Type 0} → ℕ → Option A → Result (List A) BrokenRule
    → Result (List A) BrokenRule
row_before row None later = Err (bad_row row)
row_before row (Some told) later = later >>= (λ rows. Ok (told ∷ rows))

-- What the records tell, of which the first is at this row.
abbrev pub rows_from : {A : Type 0} → (List (List ℕ) → Option A) → ℕ → List (List (List ℕ))
    → Result (List A) BrokenRule
rows_from tell row [] = Ok []
rows_from tell row (fields ∷ records) =
    row_before row (tell fields) (rows_from tell (row + 1) records)

-- Rule 1, BadRow: there is no header or another one, or a record tells nothing, since it hasn't the
-- fields of its columns. The place is the row, and the header's is 0; there is no value.
abbrev pub table_of : {A : Type 0} → (List (List ℕ) → Bool) → (List (List ℕ) → Option A)
    → List (List (List ℕ)) → Result (List A) BrokenRule
table_of is_header tell [] = Err (bad_row 0)
table_of is_header tell (header ∷ records) =
    if is_header header then rows_from tell 1 records else Err (bad_row 0)

-- Rule 2, Unknown: a row names none of so many things. The place is the row; the value is the field
-- that names it. The first of the numbers is that of this row.
abbrev pub are_known : ℕ → ℕ → ℕ → List ℕ → Result (Unit {0}) BrokenRule
are_known field count row [] = Ok tt
are_known field count row (number ∷ numbers) =
    if nat_lt number count then are_known field count (row + 1) numbers
    else Err (unknown row field)

-- Rule 3, OutOfOrder: a cycle is less than the one before it. The place is the row; the value is
-- the cycle. The first of the cycles is that of this row, and comes after `last`.
abbrev pub are_in_order : ℕ → ℕ → List ℕ → Result (Unit {0}) BrokenRule
are_in_order last row [] = Ok tt
are_in_order last row (cycle ∷ cycles) =
    if nat_lt cycle last then Err (out_of_order row cycle)
    else are_in_order cycle (row + 1) cycles

-- Rule 5, TooMany: there are more rows than so many. The place is 0; the value is their number.
abbrev pub are_few : ℕ → ℕ → Result (Unit {0}) BrokenRule
are_few most rows = if nat_le rows most then Ok tt else Err (too_many rows)
