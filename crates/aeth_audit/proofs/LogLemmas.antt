-- What holds of the rows of a log that keeps the rules.
use Rattle.std.proofs.Common.{◌≡◌, ◌≤◌, ◌+◌, ℕ, List, [], ◌∷◌, Option, Some, None, length, map, eqb}
use Rattle.std.proofs.Common.{ap, inl, inr, arith, Ok, option_and_then}
use Rattle.std.proofs.lemmas.{Bool.cases_Bool, Bool.Decides.nat_tests, Option.same_Some}
use Rattle.csv.specs.Records.{field_at}
use Rattle.aeth_base.specs.Limits.{max_cycles}
use Rattle.aeth_text.specs.Order.{Rises, RisesAfter}
use Rattle.aeth_trace.specs.{Fields.number_to, Limits.max_value, Rules.are_known, Rules.table_of}
use Rattle.aeth_trace.proofs.KnownLemmas.{are_known-All}
use Rattle.aeth_trace.proofs.ToldLemmas.{number_to-within, table-All}
use Rattle.aeth_records.specs.Records.{records_of}
use Rattle.aeth_audit.specs.Limits.{link_columns, max_link_rows}
use Rattle.aeth_audit.specs.LinkLog.{AreLinkRowsOf, are_few_rows, are_later, heads_links, is_later}
use Rattle.aeth_audit.specs.LinkLog.{link_row_in, number_at, row_with}
use Rattle.aeth_audit.specs.declared.row.LinkRow.{LinkRow}

-- Where the rule on their number is kept, rows are few.
few : (rows : ℕ) (kept : Unit {0}) → are_few_rows rows ≡ Ok kept → rows ≤ max_link_rows
few rows kept is = grind (arith, nat_tests)

-- Where the rule on their order is kept, rows rise.
rises-after : (last : LinkRow) (number : ℕ) (rows : List LinkRow) (kept : Unit {0})
    → are_later (Some last) number rows ≡ Ok kept → RisesAfter is_later last rows
rises-after last number [] kept is = tt
rises-after last number (row ∷ rows) kept is = elim (cases_Bool (is_later last row)) [
  | inl later ↦ (later, rises-after row (number + 1) rows kept (rw later at is))
  | inr not_later ↦ absurd (cc (rw not_later at is))
]

pub rises : (rows : List LinkRow) (kept : Unit {0}) → are_later None 1 rows ≡ Ok kept
    → Rises is_later rows
rises [] kept is = tt
rises (row ∷ rows) kept is = rises-after row 2 rows kept is

-- The cycle of a row is that of its field.
row_with-cycle : (cycle link header first second : Option ℕ) (row : LinkRow)
    → row_with cycle link header first second ≡ Some row → cycle ≡ Some row.cycle
row_with-cycle None link header first second row is = absurd (cc is)
row_with-cycle (Some cycle) None header first second row is = absurd (cc is)
row_with-cycle (Some cycle) (Some link) None first second row is = absurd (cc is)
row_with-cycle (Some cycle) (Some link) (Some header) None second row is = absurd (cc is)
row_with-cycle (Some cycle) (Some link) (Some header) (Some first) None row is = absurd (cc is)
row_with-cycle (Some cycle) (Some link) (Some header) (Some first) (Some second) row is =
    ap (λ (r : LinkRow). Some r.cycle) (same_Some _ row is)

-- A number at a place is within its limit.
number_at-within : (most number : ℕ) (field : Option (List ℕ))
    → option_and_then (number_to most) field ≡ Some number → number ≤ most
number_at-within most number None is = absurd (cc is)
number_at-within most number (Some text) is = number_to-within most text number is

-- The cycle of a row that a record tells is within its limit.
link_row_in-within : (fields : List (List ℕ)) (row : LinkRow) → link_row_in fields ≡ Some row
    → row.cycle ≤ max_cycles
link_row_in-within fields row is = elim (cases_Bool (eqb (length fields) link_columns)) [
  | inl columns ↦ number_at-within max_cycles row.cycle (field_at fields 0)
      (row_with-cycle (number_at fields 0 max_cycles) (number_at fields 1 max_value)
      (number_at fields 2 max_value) (number_at fields 3 max_value) (number_at fields 4 max_value)
      row (rw columns at is))
  | inr other ↦ absurd (cc (rw other at is))
]

-- The rows of a log that keeps the rules.
pub are_rows : (links : ℕ) (bytes : List ℕ) (rows : List LinkRow) (known order small : Unit {0})
    → table_of heads_links link_row_in (records_of bytes) ≡ Ok rows
    → are_known 2 links 1 (map (λ row. row.link.0) rows) ≡ Ok known
    → are_later None 1 rows ≡ Ok order → are_few_rows (length rows) ≡ Ok small
    → AreLinkRowsOf links rows
are_rows links bytes rows known order small told names rising count = record {
  few = few (length rows) small count;
  known = are_known-All (λ (row : LinkRow). row.link.0) 2 links 1 rows known names;
  order = rises rows order rising;
  cycles = table-All heads_links link_row_in (λ row. row.cycle ≤ max_cycles) link_row_in-within
      (records_of bytes) rows told;
}
