-- The rows of a log of links, or the first rule that it breaks.
--
--   is_field, heads_links      the header
--   number_at, row_with, link_row_in      a row
--   is_before, is_later, are_later      rule 3, the order of rows
--   are_few_rows      rule 4, their number
--   link_log_of, AreLinkRowsOf      the rows of a file, and what holds of them
-- This project's own.
use Rattle.std.proofs.Common.{ℕ, ◌+◌, ◌≤◌, ◌<◌, ◌==◌, ◌&&◌, ◌||◌, All, Bool, true, false, codes}
use Rattle.std.proofs.Common.{List, [], ◌∷◌, length, map, nat_le, nat_lt, Option, Some, None}
use Rattle.std.proofs.Common.{option_and_then, Result, Ok, Err, if◌then◌else◌}
use Rattle.std.specs.{Option.option_map_or, Str.bytes_eq}
use Rattle.csv.specs.Records.{field_at}
use Rattle.aeth_base.specs.{Faults.BrokenRule, Limits.max_cycles}
use Rattle.aeth_document.specs.Chain.{◌>>=◌}
use Rattle.aeth_text.specs.Order.{Rises}
use Rattle.aeth_trace.specs.{Fields.number_to, Limits.max_value, Rules.are_known, Rules.table_of}
use Rattle.aeth_records.specs.Records.{records_of}
use Rattle.aeth_audit.specs.{Fault.out_of_order, Fault.too_many_rows, Limits.link_columns}
use Rattle.aeth_audit.specs.{Limits.max_link_rows, declared.row.LinkRow.LinkRow}

-- Whether the field at a place is this text.
abbrev pub is_field : List (List ℕ) → ℕ → List ℕ → Bool
is_field fields place text =
    option_map_or (λ field. bytes_eq field text) (field_at fields place) false

-- Whether the fields are the header of a log of links.
abbrev pub heads_links : List (List ℕ) → Bool
heads_links fields = length fields == link_columns && is_field fields 0 (codes "cycle")
    && is_field fields 1 (codes "link") && is_field fields 2 (codes "header")
    && is_field fields 3 (codes "first") && is_field fields 4 (codes "second")

-- The number at a place, at most so great.
abbrev pub number_at : List (List ℕ) → ℕ → ℕ → Option ℕ
number_at fields place most = option_and_then (number_to most) (field_at fields place)

-- A row, where each of its numbers is there.
abbrev pub row_with : Option ℕ → Option ℕ → Option ℕ → Option ℕ → Option ℕ → Option LinkRow
row_with (Some cycle) (Some link) (Some header) (Some first) (Some second) = Some (record {
  cycle = cycle;
  link = record { 0 = link };
  flit = record { header = header; first = first; second = second };
})
row_with _ _ _ _ _ = None

-- The row that a record tells, where its fields are those of the columns.
abbrev pub link_row_in : List (List ℕ) → Option LinkRow
link_row_in fields =
    if length fields == link_columns
    then row_with (number_at fields 0 max_cycles) (number_at fields 1 max_value)
    (number_at fields 2 max_value) (number_at fields 3 max_value) (number_at fields 4 max_value)
    else None

-- Whether a row comes before those of a link in a cycle: in an earlier cycle, or in the same one on
-- an earlier link.
abbrev pub is_before : ℕ → ℕ → LinkRow → Bool
is_before cycle link row =
    nat_lt row.cycle cycle || (row.cycle == cycle && nat_lt row.link.0 link)

-- Whether a row comes later than the one before it.
abbrev pub is_later : LinkRow → LinkRow → Bool
is_later before row = is_before row.cycle row.link.0 before

-- Rule 3, OutOfOrder: a row doesn't come later than the one before it. The place is the row; the
-- value is its cycle. The first of the rows has this number.
abbrev pub are_later : Option LinkRow → ℕ → List LinkRow → Result (Unit {0}) BrokenRule
are_later before number [] = Ok tt
are_later before number (row ∷ rows) =
    if option_map_or (λ last. is_later last row) before true
    then are_later (Some row) (number + 1) rows
    else Err (out_of_order number row.cycle)

-- Rule 4, TooMany: there are more rows than are allowed. The place is 0; the value is their number.
abbrev pub are_few_rows : ℕ → Result (Unit {0}) BrokenRule
are_few_rows rows = if nat_le rows max_link_rows then Ok tt else Err (too_many_rows rows)

-- The rows of a file's bytes, for a chip of so many links, in file order; or the first rule that
-- the file breaks.
unfoldable pub link_log_of : ℕ → List ℕ → Result (List LinkRow) BrokenRule
link_log_of links bytes = do
  rows ← table_of heads_links link_row_in (records_of bytes)
  known ← are_known 2 links 1 (map (λ row. row.link.0) rows)
  order ← are_later None 1 rows
  few ← are_few_rows (length rows)
  Ok rows

-- What holds of the rows of a log that was read for a chip of so many links.
pub record AreLinkRowsOf (links : ℕ) (rows : List LinkRow) : Type 0 where
  pub few : length rows ≤ max_link_rows
  pub known : All (λ row. row.link.0 < links) rows
  pub order : Rises is_later rows
  pub cycles : All (λ row. row.cycle ≤ max_cycles) rows
