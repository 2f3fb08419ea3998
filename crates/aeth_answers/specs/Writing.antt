-- What comes of writing the text of an answer to the sink that it goes to.
--
--   IsWritten      the text was written whole
--   IsCutShort      a sink failed
--   EndsWith      the status with which a run ends that has this answer
-- This project's own.
use Rattle.std.proofs.Common.{ℕ, ◌≡◌, ◌≢◌, ◌≤◌, ◌⊎◌}
use Rattle.aeth_io.specs.{Causes.Rose, Sink.AppendsProperPrefix, Sink.appended}
use Rattle.aeth_io.specs.{declared.sink.Sink.Ghosts}
use Rattle.aeth_answers.specs.{Job.Job, Job.err_text, Job.out_text, Places.Sinks}
use Rattle.aeth_answers.specs.{Status.done_status, Status.write_fault_status}

-- Just the text of the answer was written: to `out` where it is done, and then `err` is as before; else
-- to `err`, and then `out` is.
pub record IsWritten {O E : Type 0} (o : Ghosts O) (e : Ghosts E) (old new : Sinks O E)
    (answer : Job) : Type 0 where
  pub out : o.written new.out ≡ appended (o.written old.out) (out_text answer)
  pub err : e.written new.err ≡ appended (e.written old.err) (err_text answer)
  pub out_kept : answer.status ≢ done_status → new.out ≡ old.out
  pub err_kept : answer.status ≡ done_status → new.err ≡ old.err

-- A sink failed: it has a proper prefix of its text, and the other is as before.
abbrev pub IsCutShort : {O E : Type 0} → Ghosts O → Ghosts E → Sinks O E → Sinks O E → Job → Type 0
IsCutShort o e old new answer =
    (Rose (o.faults old.out) (o.faults new.out)
    × AppendsProperPrefix (o.written old.out) (o.written new.out) (out_text answer)
    × (new.err ≡ old.err))
    ⊎ (Rose (e.faults old.err) (e.faults new.err)
    × AppendsProperPrefix (e.written old.err) (e.written new.err) (err_text answer)
    × (new.out ≡ old.out))

-- A run ends with the status of its answer, once its text was written, or with that of a write
-- fault, where a sink failed.
pub record EndsWith {O E : Type 0} (o : Ghosts O) (e : Ghosts E) (old new : Sinks O E) (answer : Job)
    (status : ℕ) : Type 0 where
  pub out_later : o.faults old.out ≤ o.faults new.out
  pub err_later : e.faults old.err ≤ e.faults new.err
  pub ended : ((status ≡ answer.status) × IsWritten o e old new answer)
      ⊎ ((status ≡ write_fault_status) × IsCutShort o e old new answer)
