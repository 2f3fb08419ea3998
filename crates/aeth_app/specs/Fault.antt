-- The rule that the fault of an application file shows.
-- This project's own.
use Rattle.std.proofs.Common.{codes, Option, Some, None}
use Rattle.aeth_base.specs.Faults.{BrokenRule, broken_as}
use Rattle.aeth_app.specs.declared.fault.AppFault.{AppFault}
use Rattle.aeth_app.specs.declared.fault.AppFault.TheVariants.{BadToml, CoreToItself, CoreTooBusy}
use Rattle.aeth_app.specs.declared.fault.AppFault.TheVariants.{Memory, NameTwice, OutOfRange}
use Rattle.aeth_app.specs.declared.fault.AppFault.TheVariants.{RateTooHigh, SeatsOverfull}
use Rattle.aeth_app.specs.declared.fault.AppFault.TheVariants.{TooFewSeats, UnknownName, WrongKey}

-- The rule that a fault shows; want of memory shows none.
abbrev pub rule_of : AppFault → Option BrokenRule
rule_of (BadToml broken) = Some (broken_as 1 (codes "BadToml") broken)
rule_of (WrongKey broken) = Some (broken_as 2 (codes "WrongKey") broken)
rule_of (OutOfRange broken) = Some (broken_as 3 (codes "OutOfRange") broken)
rule_of (NameTwice broken) = Some (broken_as 4 (codes "NameTwice") broken)
rule_of (UnknownName broken) = Some (broken_as 5 (codes "UnknownName") broken)
rule_of (RateTooHigh broken) = Some (broken_as 6 (codes "RateTooHigh") broken)
rule_of (CoreToItself broken) = Some (broken_as 7 (codes "CoreToItself") broken)
rule_of (CoreTooBusy broken) = Some (broken_as 8 (codes "CoreTooBusy") broken)
rule_of (TooFewSeats broken) = Some (broken_as 9 (codes "TooFewSeats") broken)
rule_of (SeatsOverfull broken) = Some (broken_as 10 (codes "SeatsOverfull") broken)
rule_of Memory = None
