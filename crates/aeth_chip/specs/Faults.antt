-- The rule that each fault of a chip file shows.
-- This project's own.
use Rattle.std.proofs.Common.{codes, Option, Some, None}
use Rattle.aeth_base.specs.Faults.{BrokenRule, broken_as}
use Rattle.aeth_chip.specs.declared.fault.ChipFault.{ChipFault}
use Rattle.aeth_chip.specs.declared.fault.ChipFault.TheVariants.{BadToml, WrongKey, OutOfRange}
use Rattle.aeth_chip.specs.declared.fault.ChipFault.TheVariants.{NameTwice, UnknownName}
use Rattle.aeth_chip.specs.declared.fault.ChipFault.TheVariants.{TooManyPorts, NiNotSingle, Memory}

-- The rule by its number and its name, with the place and the value; none for want of memory.
abbrev pub rule_of : ChipFault → Option BrokenRule
rule_of (BadToml broken) = Some (broken_as 1 (codes "BadToml") broken)
rule_of (WrongKey broken) = Some (broken_as 2 (codes "WrongKey") broken)
rule_of (OutOfRange broken) = Some (broken_as 3 (codes "OutOfRange") broken)
rule_of (NameTwice broken) = Some (broken_as 4 (codes "NameTwice") broken)
rule_of (UnknownName broken) = Some (broken_as 5 (codes "UnknownName") broken)
rule_of (TooManyPorts broken) = Some (broken_as 6 (codes "TooManyPorts") broken)
rule_of (NiNotSingle broken) = Some (broken_as 7 (codes "NiNotSingle") broken)
rule_of Memory = None
