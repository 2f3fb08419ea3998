-- The rules that plan texts break. Places are lines, which count from 1.
-- This project's own.
use Rattle.std.proofs.Common.{ℕ, codes, Option, Some, None}
use Rattle.aeth_base.specs.Faults.{BrokenRule}
use Rattle.aeth_base.specs.declared.shown.Shown.TheVariants.{Nothing, Number}
use Rattle.aeth_plan.specs.declared.fault.PlanFault.{PlanFault}
use Rattle.aeth_plan.specs.declared.fault.PlanFault.TheVariants.{BadLine, Unknown, WrongOrder}
use Rattle.aeth_plan.specs.declared.fault.PlanFault.TheVariants.{Memory}

-- The line hasn't the form that belongs at its position, or lacks its line feed.
abbrev pub bad_line : ℕ → BrokenRule
bad_line line = record { rule = 1; name = codes "BadLine"; place = line; value = Nothing }

-- A field of the line names nothing, or isn't the chip's. The value is the field, which counts
-- from 1.
abbrev pub unknown : ℕ → ℕ → BrokenRule
unknown line field =
    record { rule = 2; name = codes "Unknown"; place = line; value = Number field }

-- The line doesn't come after the one before it.
abbrev pub wrong_order : ℕ → BrokenRule
wrong_order line = record { rule = 3; name = codes "WrongOrder"; place = line; value = Nothing }

-- The rule that a fault shows.
abbrev pub rule_of : PlanFault → Option BrokenRule
rule_of (BadLine line) = Some (bad_line line)
rule_of (Unknown line field) = Some (unknown line field)
rule_of (WrongOrder line) = Some (wrong_order line)
rule_of Memory = None
