-- The rules that trace files break, as a refusal shows them. Places are rows; the header is row 0.
-- This project's own.
use Rattle.std.proofs.Common.{ℕ, ◌==◌, codes, Option, Some, None, if◌then◌else◌}
use Rattle.aeth_base.specs.Faults.{BrokenRule}
use Rattle.aeth_base.specs.declared.shown.Shown.{Shown, TheVariants.Nothing, TheVariants.Number}
use Rattle.aeth_trace.specs.declared.fault.TraceFault.{TraceFault}
use Rattle.aeth_trace.specs.declared.fault.TraceFault.TheVariants.{BadRow, FirstNotZero, Memory}
use Rattle.aeth_trace.specs.declared.fault.TraceFault.TheVariants.{OutOfOrder, Overlap, TooMany}
use Rattle.aeth_trace.specs.declared.fault.TraceFault.TheVariants.{Unknown}

-- Rule 1: a row hasn't the fields of its columns. It has no value.
abbrev pub bad_row : ℕ → BrokenRule
bad_row row = record { rule = 1; name = codes "BadRow"; place = row; value = Nothing }

-- Rule 2: a field of a row names nothing. The value is the field.
abbrev pub unknown : ℕ → ℕ → BrokenRule
unknown row field = record { rule = 2; name = codes "Unknown"; place = row; value = Number field }

-- Rule 3: a row's cycle is less than that of the row before. The value is the cycle.
abbrev pub out_of_order : ℕ → ℕ → BrokenRule
out_of_order row cycle =
    record { rule = 3; name = codes "OutOfOrder"; place = row; value = Number cycle }

-- Rule 4: a switch begins before the one before it is done. The value is the cycle in which the
-- channels of that one begin.
abbrev pub overlap : ℕ → ℕ → BrokenRule
overlap row go = record { rule = 4; name = codes "Overlap"; place = row; value = Number go }

-- Rule 5: there are too many rows. The place is 0; the value is their number.
abbrev pub too_many : ℕ → BrokenRule
too_many rows = record { rule = 5; name = codes "TooMany"; place = 0; value = Number rows }

-- What is shown of a first switch that hasn't cycle 0 and drain 0: the cycle where it isn't 0, and
-- else the drain; nothing where there is no switch, which row 0 says.
abbrev pub value_of_first : ℕ → ℕ → ℕ → Shown
value_of_first row cycle drain =
    if row == 0 then Nothing else if cycle == 0 then Number drain else Number cycle

-- Rule 6: the first switch hasn't cycle 0 and drain 0, or there is none.
abbrev pub first_not_zero : ℕ → ℕ → ℕ → BrokenRule
first_not_zero row cycle drain =
    record {
      rule = 6;
      name = codes "FirstNotZero";
      place = row;
      value = value_of_first row cycle drain;
    }

-- The rule that a fault shows; want of memory shows none.
abbrev pub rule_of : TraceFault → Option BrokenRule
rule_of (BadRow row) = Some (bad_row row)
rule_of (Unknown row field) = Some (unknown row field)
rule_of (OutOfOrder row cycle) = Some (out_of_order row cycle)
rule_of (Overlap row cycle go) = Some (overlap row go)
rule_of (TooMany rows) = Some (too_many rows)
rule_of (FirstNotZero row cycle drain) = Some (first_not_zero row cycle drain)
rule_of Memory = None
