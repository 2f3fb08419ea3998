-- The statuses with which the program ends, as numbers.
-- This project's own.
use Rattle.std.proofs.Common.{ℕ}
use Rattle.aeth_answers.specs.declared.status.Status.{Status}
use Rattle.aeth_answers.specs.declared.status.Status.TheVariants as status

-- The job is done, and its text is on `out`.
abbrev pub done_status : ℕ
done_status = 0

-- The words are no command.
abbrev pub usage_status : ℕ
usage_status = 1

-- A file breaks a rule.
abbrev pub refused_status : ℕ
refused_status = 2

-- What the words ask for can't be granted.
abbrev pub not_granted_status : ℕ
not_granted_status = 3

-- A file can't be read.
abbrev pub read_fault_status : ℕ
read_fault_status = 4

-- A sink failed, and has a proper prefix of its text.
abbrev pub write_fault_status : ℕ
write_fault_status = 5

-- Memory was wanting, and nothing was written.
abbrev pub memory_status : ℕ
memory_status = 6

-- The number of a status.
abbrev pub status_number : Status → ℕ
status_number status.Done = done_status
status_number status.Usage = usage_status
status_number status.InputRefused = refused_status
status_number status.NotGranted = not_granted_status
status_number status.ReadFault = read_fault_status
status_number status.WriteFault = write_fault_status
status_number status.Memory = memory_status
