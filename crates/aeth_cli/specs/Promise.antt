-- What a run of the program promises: this file says it whole.
--
-- The words are those after the program's name. Each clause holds of every shelf and every pair of
-- sinks. Of contents a clause speaks where the shelf tells them, of calls on it that failed where it
-- counts these alone, of texts where a sink tells what was written. The job is that of two machines,
-- each of which says what the log of a run is: one for `simulate` and `demo`, one for
-- `simulate-tables`. Want of memory is the one answer whose cause is left open, but it never stands
-- for a fault.
-- This project's own.
use Rattle.std.proofs.Common.{ℕ, ◌≡◌, ◌≢◌, ◌<◌, ◌≤◌, ◌⊎◌, List, Some, None}
use Rattle.aeth_io.specs.{Causes.Rose, Sink.appended}
use Rattle.aeth_answers.specs.{Job.Job, Job.err_text, Job.out_text, Places.IsAfter}
use Rattle.aeth_answers.specs.{Places.NoneFailed, Places.Places, Places.Sinks, Places.files_of}
use Rattle.aeth_answers.specs.{Status.done_status, Status.memory_status, Status.read_fault_status}
use Rattle.aeth_answers.specs.{Status.usage_status, Status.write_fault_status, Task.IsReadFault}
use Rattle.aeth_answers.specs.{Writing.IsCutShort}
use Rattle.aeth_run_commands.specs.Outcomes.{Outcomes}
use Rattle.aeth_cli.specs.declared.commands.Command.{Command}
use Rattle.aeth_cli.specs.Commands.{IsAnswerTo, WordsComeTo, command_of, job, task_of}
use Rattle.aeth_io.specs.declared.shelf.Shelf as shelf
use Rattle.aeth_io.specs.declared.sink.Sink as sink

-- The sinks of a run.
abbrev pub sinks_of : {H O E : Type 0} → Places H O E → Sinks O E
sinks_of places = record { out = places.out; err = places.err }

-- The program was run with these words and machines of these outcomes over a shelf and two sinks,
-- which are given by what they tell, and ended with a status.
pub record Promise {H O E : Type 0} (outcomes : Outcomes) (h : shelf.Ghosts H)
    (o : sink.Ghosts O) (e : sink.Ghosts E) (words : List (List ℕ)) (old new : Places H O E)
    (status : ℕ) : Type 0 where
  -- The status is one of 0 to 6.
  pub statuses : status ≤ memory_status
  -- A run changes no content of the shelf, and no count of faults falls.
  pub shelf_is : IsAfter (files_of h old.shelf) (files_of h new.shelf)
  pub out_later : o.faults old.out ≤ o.faults new.out
  pub err_later : e.faults old.err ≤ e.faults new.err
  -- A status below that of a read fault is the status of the job.
  pub status_is : status < read_fault_status
      → (asked : Job) → job outcomes (h.content old.shelf) words ≡ Some asked → status ≡ asked.status
  -- Just the text of that job was written: to `out` where the job is done, else to `err`.
  pub out_is : status < read_fault_status
      → (asked : Job) → job outcomes (h.content old.shelf) words ≡ Some asked
      → o.written new.out ≡ appended (o.written old.out) (out_text asked)
  pub err_is : status < read_fault_status
      → (asked : Job) → job outcomes (h.content old.shelf) words ≡ Some asked
      → e.written new.err ≡ appended (e.written old.err) (err_text asked)
  -- Where the shelf doesn't tell a file, the same holds of the job that comes of some bytes in its
  -- place.
  pub answered : status < read_fault_status
      → (answer : Job) × WordsComeTo outcomes (h.content old.shelf) (command_of words) answer
      × (status ≡ answer.status)
      × (o.written new.out ≡ appended (o.written old.out) (out_text answer))
      × (e.written new.err ≡ appended (e.written old.err) (err_text answer))
  -- No call on the shelf failed: what a file told isn't told by another try.
  pub answered_shelf : status < read_fault_status
      → NoneFailed (files_of h old.shelf) (files_of h new.shelf)
  -- `err` is as before where the job is done, and `out` where it isn't.
  pub err_kept : status ≡ done_status → new.err ≡ old.err
  pub out_kept : status < read_fault_status → status ≢ done_status → new.out ≡ old.out
  -- The words alone decide whether they are a command.
  pub usage_only : status ≡ usage_status → command_of words ≡ None
  -- A file can't be read: its calls failed in this run, it is named on `err`, and all that is
  -- judged before it was judged and not refused.
  pub read_fault : status ≡ read_fault_status
      → (command : Command) × (answer : Job) × (command_of words ≡ Some command)
      × IsReadFault (files_of h old.shelf) (files_of h new.shelf) (task_of outcomes command) answer
      × (e.written new.err ≡ appended (e.written old.err) answer.text)
      × (new.out ≡ old.out)
  -- A sink failed in this run: it has a proper prefix of its text, and the other has nothing.
  pub write_fault : status ≡ write_fault_status
      → (answer : Job)
      × IsAnswerTo outcomes (files_of h old.shelf) (files_of h new.shelf) (command_of words) answer
      × IsCutShort o e (sinks_of old) (sinks_of new) answer
  -- Memory was wanting: no call on the shelf failed, and both sinks are as before.
  pub memory_shelf : status ≡ memory_status
      → NoneFailed (files_of h old.shelf) (files_of h new.shelf)
  pub memory_out : status ≡ memory_status → new.out ≡ old.out
  pub memory_err : status ≡ memory_status → new.err ≡ old.err
  -- Where no count of faults rose, the job was done, or memory was wanting.
  pub complete : (Rose (o.faults old.out) (o.faults new.out) → ⊥)
      → (Rose (e.faults old.err) (e.faults new.err) → ⊥)
      → ((name : List ℕ) → Rose (h.faults old.shelf name) (h.faults new.shelf name) → ⊥)
      → (status < read_fault_status) ⊎ (status ≡ memory_status)
