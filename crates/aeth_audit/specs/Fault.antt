-- The rules that a log of links breaks, as a refusal shows them. Places are rows; the header is row
-- 0. The first three rules are those of trace files.
-- This project's own.
use Rattle.std.proofs.Common.{ℕ, codes, Option, Some, None}
use Rattle.aeth_base.specs.{Faults.BrokenRule, declared.shown.Shown.TheVariants.Number}
use Rattle.aeth_audit.specs.declared.fault.LogFault.{LogFault}
use Rattle.aeth_audit.specs.declared.fault.LogFault.TheVariants.{BadRow, Memory, OutOfOrder}
use Rattle.aeth_audit.specs.declared.fault.LogFault.TheVariants.{TooMany, Unknown}
pub use Rattle.aeth_trace.specs.Fault.{bad_row, out_of_order, unknown}

-- Rule 4: there are too many rows. The place is 0; the value is their number.
abbrev pub too_many_rows : ℕ → BrokenRule
too_many_rows rows =
    record { rule = 4; name = codes "TooMany"; place = 0; value = Number rows }

-- The rule that a fault shows; want of memory shows none.
abbrev pub rule_of : LogFault → Option BrokenRule
rule_of (BadRow row) = Some (bad_row row)
rule_of (Unknown row field) = Some (unknown row field)
rule_of (OutOfOrder row cycle) = Some (out_of_order row cycle)
rule_of (TooMany rows) = Some (too_many_rows rows)
rule_of Memory = None
