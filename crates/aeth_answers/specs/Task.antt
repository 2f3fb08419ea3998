-- What a command does: it reads files, one after the other, and comes to a job.
--
--   Task                    the files and what comes of them
--   Judging                 a part of a task, which gives a value to what comes next
--   job_with                the job, where the contents that it rests on are told
--   ComesTo                 the job, with some bytes for each file that isn't told
--   ComesToRead             all that is judged before a file was judged and not refused
--   IsAnswer, IsReadFault   what a run answers: the job, or that a file can't be read
-- This project's own.
use Rattle.std.proofs.Common.{ℕ, ◌≡◌, ◌≢◌, ◌<◌, ◌≤◌, ◌⊎◌, List, Option, Some, None}
use Rattle.aeth_io.specs.Causes.{Rose}
use Rattle.aeth_answers.specs.{Job.Job, Job.read_fault, Places.Files, Places.NoneFailed}
use Rattle.aeth_answers.specs.{Status.read_fault_status, Status.usage_status}

-- A task ends with a job; or it reads a file, which has a word in texts and a name on the shelf,
-- and goes on with its bytes.
pub data Task : Type 0 where
  ends : Job → Task
  reads : List ℕ → List ℕ → (List ℕ → Task) → Task

-- A file, or what a command judges between its files: it gives a value, of which the next comes, or
-- the task ends there.
abbrev pub Judging : Type 0 → Type 0
Judging A = (A → Task) → Task

-- What comes of the bytes of a file, where they are told.
abbrev pub told : {A : Type 0} → Option (List ℕ) → (List ℕ → Option A) → Option A
told None next = None
told (Some bytes) next = next bytes

-- The job of a task, where the contents on which it rests are told.
abbrev pub job_with : (List ℕ → Option (List ℕ)) → Task → Option Job
job_with content (ends job) = Some job
job_with content (reads file name next) =
    told (content name) (λ bytes. job_with content (next bytes))

-- What holds of the bytes of a file: of those that are told, or of some where none are.
abbrev pub OnTold : Option (List ℕ) → (List ℕ → Type 0) → Type 0
OnTold None Holds = (bytes : List ℕ) × Holds bytes
OnTold (Some bytes) Holds = Holds bytes

-- The task comes to a job, by the contents that are told, and by some bytes for each file whose
-- content isn't.
abbrev pub ComesTo : (List ℕ → Option (List ℕ)) → Task → Job → Type 0
ComesTo content (ends own) job = job ≡ own
ComesTo content (reads file name next) job =
    OnTold (content name) (λ bytes. ComesTo content (next bytes) job)

-- The task comes to read this file under this name: none of what it judges before is refused.
abbrev pub ComesToRead : (List ℕ → Option (List ℕ)) → Task → List ℕ → List ℕ → Type 0
ComesToRead content (ends job) file name = ⊥
ComesToRead content (reads this own next) file name =
    ((this ≡ file) × (own ≡ name))
    ⊎ OnTold (content own) (λ bytes. ComesToRead content (next bytes) file name)

-- A file can't be read: calls on its name failed, and the task comes to read it.
pub record IsReadFault (old new : Files) (task : Task) (answer : Job) : Type 0 where
  pub file : List ℕ
  pub name : List ℕ
  pub says : answer ≡ read_fault file
  pub rose : Rose (old.faults name) (new.faults name)
  pub reached : ComesToRead old.content task file name

-- The answer to a task: its job, where no call on the shelf failed; or that a file can't be read. The
-- words that it came of are a command.
pub record IsAnswer (old new : Files) (task : Task) (answer : Job) : Type 0 where
  pub within : answer.status ≤ read_fault_status
  pub command : answer.status ≢ usage_status
  pub job : answer.status < read_fault_status → ComesTo old.content task answer
  pub faultless : answer.status < read_fault_status → NoneFailed old new
  pub fault : answer.status ≡ read_fault_status → IsReadFault old new task answer
