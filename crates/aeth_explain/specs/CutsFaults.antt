-- The rules that texts of certificates break. Places are lines, which count from 1. The first two are
-- those of plan texts. This project's own.
use Rattle.std.proofs.Common.{ℕ, codes, Option, Some, None}
use Rattle.aeth_base.specs.{Faults.BrokenRule, declared.shown.Shown.TheVariants.Nothing}
use Rattle.aeth_plan.specs.Refusals.{bad_line, unknown}
use Rattle.aeth_explain.specs.declared.cuts_fault.CutsFault.{CutsFault}
use Rattle.aeth_explain.specs.declared.cuts_fault.CutsFault.TheVariants.{BadLine, Memory, Unknown}
use Rattle.aeth_explain.specs.declared.cuts_fault.CutsFault.TheVariants.{WrongTry}

-- The `try` line isn't that of the try at its place, or the end comes before the last try.
abbrev pub wrong_try : ℕ → BrokenRule
wrong_try line = record { rule = 3; name = codes "WrongTry"; place = line; value = Nothing }

-- The rule that a fault shows.
abbrev pub rule_of : CutsFault → Option BrokenRule
rule_of (BadLine line) = Some (bad_line line)
rule_of (Unknown line field) = Some (unknown line field)
rule_of (WrongTry line) = Some (wrong_try line)
rule_of Memory = None
