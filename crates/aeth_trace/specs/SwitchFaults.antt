-- What the fault of a file of switches tells of its rows: beside the rule, which shows one number,
-- a fault has the cycle and the drain of the row that breaks it.
--
--   told_or_none, switches_told      the rows that a file tells
--   first_of, IsOfRow      a fault of some rows
--   IsPlain      a fault that has no such field
-- This project's own.
use Rattle.std.proofs.Common.{◌≡◌, ℕ, ◌-◌, List, [], ◌∷◌, Some, Result, Ok, Err, option_map}
use Rattle.std.proofs.Common.{slice_get}
use Rattle.std.specs.Prelude.{⊤}
use Rattle.aeth_app.specs.App.{AppData}
use Rattle.aeth_base.specs.Faults.{BrokenRule}
use Rattle.aeth_records.specs.Records.{records_of}
use Rattle.aeth_trace.specs.Rules.{table_of}
use Rattle.aeth_trace.specs.Switches.{heads_switches, switch_in, use_names}
use Rattle.aeth_trace.specs.declared.fault.TraceFault.{TraceFault}
use Rattle.aeth_trace.specs.declared.fault.TraceFault.TheVariants.{BadRow, FirstNotZero, Memory}
use Rattle.aeth_trace.specs.declared.fault.TraceFault.TheVariants.{OutOfOrder, Overlap, TooMany}
use Rattle.aeth_trace.specs.declared.fault.TraceFault.TheVariants.{Unknown}
use Rattle.aeth_trace.specs.declared.switches.SwitchRow.{SwitchRow}

-- The rows that are told; none where a rule is broken.
abbrev pub told_or_none : Result (List SwitchRow) BrokenRule → List SwitchRow
told_or_none (Ok rows) = rows
told_or_none (Err broken) = []

-- The rows that a file's bytes tell, whatever rules they break behind that on their fields.
abbrev pub switches_told : AppData → List ℕ → List SwitchRow
switches_told app bytes =
    told_or_none (table_of heads_switches (switch_in (use_names app)) (records_of bytes))

-- The cycle and the drain of the first row; zeros where there is no row.
abbrev pub first_of : List SwitchRow → ℕ × ℕ
first_of [] = (0, 0)
first_of (first ∷ rows) = (first.cycle, first.drain)

-- A fault has the cycle of the row that overlaps, and the cycle and the drain of the first row. The
-- fields of all other faults are shown by their rules.
abbrev pub IsOfRow : List SwitchRow → TraceFault → Type 0
IsOfRow rows (BadRow row) = ⊤
IsOfRow rows (Unknown row field) = ⊤
IsOfRow rows (OutOfOrder row cycle) = ⊤
IsOfRow rows (Overlap row cycle go) =
    option_map (λ one. one.cycle) (slice_get rows (row - 1)) ≡ Some cycle
IsOfRow rows (TooMany count) = ⊤
IsOfRow rows (FirstNotZero row cycle drain) = first_of rows ≡ (cycle, drain)
IsOfRow rows Memory = ⊤

-- A fault of a rule that all trace files have: it is of any rows of switches.
abbrev pub IsPlain : TraceFault → Type 0
IsPlain fault = (rows : List SwitchRow) → IsOfRow rows fault
