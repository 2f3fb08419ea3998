-- The switches of a file, or the first rule that it breaks.
--
--   heads_switches, switch_in      the columns of switches
--   go_after, are_apart, is_first_at_zero      rules 4 and 6
--   switches_of, AreSwitchesOf      the switches of a file, and what holds of them
-- This project's own.
use Rattle.std.proofs.Common.{◌≡◌, ◌≤◌, ◌<◌, All, ℕ, ◌+◌, ◌&&◌, ◌==◌, Bool, false, codes, List, []}
use Rattle.std.proofs.Common.{◌∷◌, length, map, nat_lt, Option, Some, None, Result, Ok, Err}
use Rattle.std.proofs.Common.{if◌then◌else◌}
use Rattle.std.specs.{List.Sorted.IsNonDecreasingBy, Str.bytes_eq}
use Rattle.aeth_app.specs.App.{AppData}
use Rattle.aeth_base.specs.{Faults.BrokenRule, Limits.max_cycles}
use Rattle.aeth_document.specs.Chain.{◌>>=◌}
use Rattle.aeth_trace.specs.{Fault.first_not_zero, Fault.overlap, Fields.named, Fields.number_to}
use Rattle.aeth_trace.specs.{Fields.three_of, Limits.max_switch_rows, Rules.are_few}
use Rattle.aeth_trace.specs.{Rules.are_in_order, Rules.are_known, Rules.table_of, Spans.SpanData}
use Rattle.aeth_trace.specs.{Spans.span_of, declared.switches.SwitchRow.SwitchRow}
use Rattle.aeth_records.specs.Records.{records_of}

-- Whether three fields are the header of a file of switches.
abbrev pub heads_three : Option (List ℕ × List ℕ × List ℕ) → Bool
heads_three None = false
heads_three (Some fields) =
    bytes_eq fields.0 (codes "cycle") && bytes_eq fields.1 (codes "use")
    && bytes_eq fields.2 (codes "drain")

-- Whether the fields are the header of a file of switches.
abbrev pub heads_switches : List (List ℕ) → Bool
heads_switches fields = heads_three (three_of fields)

-- A switch, where its cycle and its drain are there.
abbrev pub switch_with : Option ℕ → ℕ → Option ℕ → Option SwitchRow
switch_with (Some cycle) to (Some drain) =
    Some (record { cycle = cycle; to = record { 0 = to }; drain = drain })
switch_with _ to _ = None

-- The switch of three fields. The use case is the place of its name among these.
abbrev pub switch_of : List (List ℕ) → Option (List ℕ × List ℕ × List ℕ) → Option SwitchRow
switch_of names None = None
switch_of names (Some fields) =
    switch_with (number_to max_cycles fields.0) (named names fields.1)
    (number_to max_cycles fields.2)

-- The switch that a row tells, where its fields are those of its columns.
abbrev pub switch_in : List (List ℕ) → List (List ℕ) → Option SwitchRow
switch_in names fields = switch_of names (three_of fields)

-- The cycle in which the channels begin that a switch opens, where it leaves this use case: after
-- its drain, its lag and its writes.
abbrev pub go_after : SpanData → ℕ → SwitchRow → ℕ
go_after spans from row =
    row.cycle + row.drain + (span_of spans from row.to.0).0 + (span_of spans from row.to.0).1

-- Rule 4, Overlap: a switch begins before the channels begin that the one before it opens. The
-- place is the row; the value is the cycle in which they begin. The first of these rows is at this
-- place, leaves this use case, and must not begin before cycle `go`.
abbrev pub are_apart_from : SpanData → ℕ → ℕ → ℕ → List SwitchRow → Result (Unit {0}) BrokenRule
are_apart_from spans from go place [] = Ok tt
are_apart_from spans from go place (row ∷ rows) =
    if nat_lt row.cycle go then Err (overlap place go)
    else are_apart_from spans row.to.0 (go_after spans from row) (place + 1) rows

-- The channels of the first use case begin in cycle 0.
abbrev pub are_apart : SpanData → List SwitchRow → Result (Unit {0}) BrokenRule
are_apart spans [] = Ok tt
are_apart spans (first ∷ rows) = are_apart_from spans first.to.0 0 2 rows

-- Rule 6, FirstNotZero: there is no switch, or the first hasn't cycle 0 and drain 0. The place is
-- 1, and 0 where there is none; the value is the cycle where it isn't 0, and else the drain.
abbrev pub is_first_at_zero : List SwitchRow → Result (Unit {0}) BrokenRule
is_first_at_zero [] = Err (first_not_zero 0 0 0)
is_first_at_zero (first ∷ rows) =
    if first.cycle == 0 && first.drain == 0 then Ok tt
    else Err (first_not_zero 1 first.cycle first.drain)

-- The names of an application's use cases.
abbrev pub use_names : AppData → List (List ℕ)
use_names app = map (λ one. one.name) app.uses

-- The switches of a file's bytes, for an application whose switches take so long, in file order; or
-- the first rule that the file breaks.
unfoldable pub switches_of : AppData → SpanData → List ℕ → Result (List SwitchRow) BrokenRule
switches_of app spans bytes = do
  rows ← table_of heads_switches (switch_in (use_names app)) (records_of bytes)
  known ← are_known 2 (length app.uses) 1 (map (λ row. row.to.0) rows)
  order ← are_in_order 0 1 (map (λ row. row.cycle) rows)
  apart ← are_apart spans rows
  few ← are_few max_switch_rows (length rows)
  first ← is_first_at_zero rows
  Ok rows

-- What holds of the switches of a file that was read with an application, whose switches take so
-- long.
pub record AreSwitchesOf (app : AppData) (spans : SpanData) (rows : List SwitchRow) : Type 0 where
  pub few : length rows ≤ max_switch_rows
  pub known : All (λ row. row.to.0 < length app.uses) rows
  pub order : IsNonDecreasingBy (λ row. row.cycle) rows
  pub cycles : All (λ row. row.cycle ≤ max_cycles) rows
  pub drains : All (λ row. row.drain ≤ max_cycles) rows
  pub apart : are_apart spans rows ≡ Ok tt
  pub first : is_first_at_zero rows ≡ Ok tt
