-- Jobs: a status and a text.
-- This project's own.
use Rattle.std.proofs.Common.{ℕ, ◌==◌, ◌++◌, List, [], codes, if◌then◌else◌}
use Rattle.aeth_answers.specs.Status.{done_status, not_granted_status, read_fault_status}
use Rattle.aeth_answers.specs.Status.{usage_status}

-- A status, and the text that goes with it.
pub record Job : Type 0 where
  pub status : ℕ
  pub text : List ℕ

-- The text of a job that is done goes to `out`.
abbrev pub out_text : Job → List ℕ
out_text job = if job.status == done_status then job.text else []

-- The text of every other job goes to `err`.
abbrev pub err_text : Job → List ℕ
err_text job = if job.status == done_status then [] else job.text

-- A job that is done, with its text.
abbrev pub done : List ℕ → Job
done text = record { status = done_status; text = text }

-- What is asked for can't be granted, and the text says why.
abbrev pub not_granted : List ℕ → Job
not_granted text = record { status = not_granted_status; text = text }

-- The words are no command.
abbrev pub usage : Job
usage = record { status = usage_status; text = codes "usage\n" }

-- A file can't be read.
abbrev pub read_fault : List ℕ → Job
read_fault file =
    record { status = read_fault_status; text = codes "read fault " ++ file ++ codes "\n" }
