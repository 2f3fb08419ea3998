-- The use cases that a run enters, and their channels.
--
--   is_entered      whether a row of switches enters a use case
--   AreUsesOf      the use cases that rows enter
--   lines_if_entered, entered_lines      the channels of a use case that is entered, and those of all
-- This project's own.
use Rattle.std.proofs.Common.{ℕ, ◌≢◌, ◌==◌, All, Bool, Contains, IsTrue, List, [], length, map}
use Rattle.std.proofs.Common.{if◌then◌else◌}
use Rattle.std.specs.List.{AllPairs, list_any, range_with_len}
use Rattle.aeth_base.specs.declared.ids.UseId.{UseId}
use Rattle.aeth_trace.specs.declared.switches.SwitchRow.{SwitchRow}
use Rattle.aeth_accepted.specs.Inputs.{Inputs}
use Rattle.aeth_schedule.specs.{Lines.lines_of, declared.lines.Line.Line}

-- Whether one of the rows enters a use case.
abbrev pub is_entered : List SwitchRow → ℕ → Bool
is_entered rows u = list_any (λ row. row.to.0 == u) rows

-- The use cases that rows enter: that of each row, no other, and none twice.
pub record AreUsesOf (rows : List SwitchRow) (entered : List UseId) : Type 0 where
  pub each : All (λ row. Contains entered row.to) rows
  pub only : All (λ u. IsTrue (is_entered rows u.0)) entered
  pub once : AllPairs (λ u v. u ≢ v) entered

-- The channels of a use case, where a row enters it.
abbrev pub lines_if_entered : Inputs → ℕ → List Line
lines_if_entered inputs u = if is_entered inputs.switches u then lines_of inputs u else []

-- For each use case its channels, where a row enters it.
abbrev pub entered_lines : Inputs → List (List Line)
entered_lines inputs = map (lines_if_entered inputs) (range_with_len 0 (length inputs.app.uses))
