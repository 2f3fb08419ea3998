-- Laws of tasks that come to a job which refuses no file and no plan: their files told values.
use Rattle.std.proofs.Common.{◌≡◌, ◌≢◌, ◌≤◌, ℕ, List, length, Option, Some, None, Result, Ok, Err}
use Rattle.std.proofs.Common.{refl, sym, ap, inl, inr, arith, if◌then◌else◌, nat_le}
use Rattle.std.proofs.lemmas.Bool.{cases_Bool, Decides.nat_tests}
use Rattle.std.proofs.lemmas.Option.{none-some, same_Some}
use Rattle.aeth_app.specs.App.{AppData}
use Rattle.aeth_base.specs.Faults.{BrokenRule}
use Rattle.aeth_check.specs.declared.verdict.Verdict.{Verdict}
use Rattle.aeth_check.specs.declared.verdict.Verdict.TheVariants.{Accepted, Missing, Broken}
use Rattle.aeth_io.specs.Limits.{max_file_bytes}
use Rattle.aeth_answers.specs.{Files.judged_file, Files.judgement, Job.Job, Refusal.refused_file}
use Rattle.aeth_answers.specs.{Refusal.too_long, Status.done_status, Status.refused_status}
use Rattle.aeth_answers.specs.{Task.Task, Task.ends, Task.job_with, Task.told}
use Rattle.aeth_files.specs.{Plans.on_verdict, Told.IsTold}

-- A job with another status isn't the one that is asked for.
other_job : {P : Type 0} (job asked : Job) → Some job ≡ Some asked → asked.status ≢ job.status → P
other_job job asked same other =
    absurd (other (ap (λ (one : Job). one.status) (sym (same_Some job asked same))))

module _ (content : List ℕ → Option (List ℕ)) (asked : Job)
    (kept : asked.status ≢ refused_status) where
  -- Where a judgement comes to a job that refuses no file, there is a value, and the next comes to
  -- that job.
  judgement_kept : {A : Type 0} (file : List ℕ) (result : Result A BrokenRule) (next : A → Task)
      → job_with content (judgement file result next) ≡ Some asked
      → (value : A) × (result ≡ Ok value) × (job_with content (next value) ≡ Some asked)
  judgement_kept file (Ok value) next is = (value, refl, is)
  judgement_kept file (Err broken) next is = other_job (refused_file file broken) asked is kept

  -- The same of bytes that mustn't be too many.
  short_kept : {A : Type 0} (file bytes : List ℕ) (result : Result A BrokenRule) (next : A → Task)
      → job_with content (if nat_le (length bytes) max_file_bytes then judgement file result next
      else ends (refused_file file too_long)) ≡ Some asked
      → (length bytes ≤ max_file_bytes)
      × ((value : A) × (result ≡ Ok value) × (job_with content (next value) ≡ Some asked))
  short_kept file bytes result next is =
      elim (cases_Bool (nat_le (length bytes) max_file_bytes)) [
        | inl short ↦ (grind (arith, nat_tests), judgement_kept file result next (rw short at is))
        | inr long ↦ other_job (refused_file file too_long) asked (rw long at is) kept
      ]

  -- The same of contents that may not be told.
  told_kept : {A : Type 0} (held : Option (List ℕ)) (file : List ℕ)
      (told_by : List ℕ → Result A BrokenRule) (next : A → Task)
      → told held (λ bytes. job_with content
      (if nat_le (length bytes) max_file_bytes then judgement file (told_by bytes) next
      else ends (refused_file file too_long))) ≡ Some asked
      → (bytes : List ℕ) × (held ≡ Some bytes) × (length bytes ≤ max_file_bytes)
      × ((value : A) × (told_by bytes ≡ Ok value) × (job_with content (next value) ≡ Some asked))
  told_kept None file told_by next is = absurd (none-some asked is)
  told_kept (Some bytes) file told_by next is =
      let (short, rest) = short_kept file bytes (told_by bytes) next is in
      (bytes, refl, short, rest)

  -- A file that is judged tells a value, and the next comes to the job.
  pub file_kept : {A : Type 0} (file : List ℕ) (told_by : List ℕ → Result A BrokenRule)
      (name : List ℕ) (next : A → Task)
      → job_with content (judged_file file told_by name next) ≡ Some asked
      → (value : A) × IsTold content name told_by value
      × (job_with content (next value) ≡ Some asked)
  file_kept file told_by name next is =
      let (bytes, held, short, next_is) = told_kept (content name) file told_by next is in
      let (value, tells, rest) = next_is in
      (value, record { bytes = bytes; held = held; short = short; told = tells }, rest)

-- Where a verdict comes to a job that is done, the plan is accepted, and the next comes to that job.
pub verdict_kept : (content : List ℕ → Option (List ℕ)) (asked : Job)
    → asked.status ≡ done_status → (app : AppData) (verdict : Verdict) (next : Unit {0} → Task)
    → job_with content (on_verdict app verdict next) ≡ Some asked
    → (verdict ≡ Accepted) × (job_with content (next tt) ≡ Some asked)
verdict_kept content asked done app Accepted next is = (refl, is)
verdict_kept content asked done app (Missing unit side) next is =
    other_job _ asked is (λ same. omega (arith, done, same))
verdict_kept content asked done app (Broken rule line other) next is =
    other_job _ asked is (λ same. omega (arith, done, same))
