-- Laws of tasks: what answers them while their files are read.
use Rattle.std.proofs.Common.{◌≡◌, ◌≢◌, ◌∙◌, ◌≤◌, ◌<◌, ℕ, List, Option, Some, None, inl, inr, true}
use Rattle.std.proofs.Common.{refl, sym, subst, arith}
use Rattle.std.proofs.lemmas.{Bool.cases_Bool, Option.none-some, Option.same_Some}
use Rattle.std.proofs.Math.Path.{fun_ext}
use Rattle.aeth_io.specs.{Causes.IsFaultless, Causes.Rose, declared.shelf.Shelf.Ghosts}
use Rattle.aeth_answers.specs.{Job.Job, Job.read_fault, Places.Files, Places.IsAfter}
use Rattle.aeth_answers.specs.{Places.NoneFailed, Places.files_of, Status.read_fault_status}
use Rattle.aeth_answers.specs.{Status.usage_status, Stop.Leaves, Task.ComesTo, Task.ComesToRead}
use Rattle.aeth_answers.specs.{Task.IsAnswer, Task.OnTold, Task.Task, Task.ends, Task.job_with}
use Rattle.aeth_answers.specs.{Task.reads, Task.told}

-- No call failed where none failed on a shelf that counts calls alone.
pub NoneFailed-counted : {H : Type 0} (g : Ghosts H) (old new : H)
    → (g.counts_calls ≡ true → IsFaultless (g.faults old) (g.faults new))
    → NoneFailed (files_of g old) (files_of g new)
NoneFailed-counted g old new clean = elim (cases_Bool g.counts_calls) [
  | inl counts ↦ λ name. rw counts (clean counts name)
  | inr uncounted ↦ λ name. rw uncounted refl
]

-- Nothing was read.
pub IsAfter-same : (now : Files) → IsAfter now now
IsAfter-same now = record { kept = λ name. refl; later = λ name. omega arith }

-- Reads, and then more reads.
pub IsAfter-then : (old now new : Files) → IsAfter old now → IsAfter now new → IsAfter old new
IsAfter-then old now new first more = record {
  kept = λ name. more.kept name ∙ first.kept name;
  later = λ name. omega (arith, first.later name, more.later name);
}

-- A task that is at its end is answered by its job.
pub IsAnswer-ends : (now : Files) (job : Job) → job.status < read_fault_status
    → job.status ≢ usage_status → IsAnswer now now (ends job) job
IsAnswer-ends now job below command = record {
  within = omega arith;
  command = command;
  job = λ low. refl;
  faultless = λ low name. refl;
  fault = λ fault. absurd (omega (arith, fault));
}

-- That a file can't be read answers a task that reads it, where its faults rose.
pub IsAnswer-fault : (old new : Files) (file name : List ℕ) (next : List ℕ → Task) (answer : Job)
    → Rose (old.faults name) (new.faults name) → answer ≡ read_fault file
    → IsAnswer old new (reads file name next) answer
IsAnswer-fault old new file name next answer rose is =
    subst (λ (job : Job). IsAnswer old new (reads file name next) job) (sym is) (record {
      within = omega arith;
      command = λ usage. absurd (omega (arith, usage));
      job = λ below. absurd (omega (arith, below));
      faultless = λ below. absurd (omega (arith, below));
      fault = λ _. record {
        file = file;
        name = name;
        says = refl;
        rose = rose;
        reached = inl (refl, refl);
      };
    })

-- A count that rose later rose.
rose_later : (old now new : ℕ) → old ≤ now → Rose now new → Rose old new
rose_later old now new later (inl rose) = inl (omega arith)
rose_later old now new later (inr full) = inr full

-- What is reached of what comes next is reached of a task that reads a file.
reached_next : (content : Option (List ℕ)) (bytes : List ℕ) (Reached : List ℕ → Type 0)
    → ((held : List ℕ) → content ≡ Some held → bytes ≡ held)
    → Reached bytes → OnTold content Reached
reached_next None bytes Reached read reached = (bytes, reached)
reached_next (Some held) bytes Reached read reached = subst Reached (read held refl) reached

-- Once a file was read, over the same contents and without a fault, what comes next of its bytes is left.
pub Leaves-reads : (old now : Files) (file name : List ℕ) (next : List ℕ → Task) (bytes : List ℕ)
    → IsAfter old now → NoneFailed old now
    → ((held : List ℕ) → old.content name ≡ Some held → bytes ≡ held)
    → Leaves old now (reads file name next) (next bytes)
Leaves-reads old now file name next bytes after clean read new answer answers_now =
    let IsAnswerOver : (List ℕ → Option (List ℕ)) → Type 0 =
    λ content. IsAnswer
    (record { content = content; faults = now.faults; failed = now.failed }) new (next bytes)
    answer in
    let answers = subst IsAnswerOver (fun_ext after.kept) answers_now in record {
      within = answers.within;
      command = answers.command;
      job = λ below. reached_next (old.content name) bytes
          (λ held. ComesTo old.content (next held) answer) read (answers.job below);
      faultless = λ below name. answers.faultless below name ∙ clean name;
      fault = λ fault. let it = answers.fault fault in record {
        file = it.file;
        name = it.name;
        says = it.says;
        rose = rose_later (old.faults it.name) (now.faults it.name) (new.faults it.name)
            (after.later it.name) it.rose;
        reached = inr (reached_next (old.content name) bytes
            (λ held. ComesToRead old.content (next held) it.file it.name) read it.reached);
      };
    }

-- What comes of a content that is told is the job, where it is for each content.
told_job : (held : Option (List ℕ)) (next : List ℕ → Option Job) (Comes : List ℕ → Type 0)
    (job asked : Job) → ((bytes : List ℕ) → Comes bytes → next bytes ≡ Some asked → job ≡ asked)
    → OnTold held Comes → told held next ≡ Some asked → job ≡ asked
told_job None next Comes job asked is comes same = absurd (none-some asked same)
told_job (Some bytes) next Comes job asked is comes same = is bytes comes same

-- What a task comes to is its job, where the contents on which it rests are told.
pub ComesTo-job : (content : List ℕ → Option (List ℕ)) (task : Task) (job asked : Job)
    → ComesTo content task job → job_with content task ≡ Some asked → job ≡ asked
ComesTo-job content (ends own) job asked comes same = comes ∙ same_Some own asked same
ComesTo-job content (reads file name next) job asked comes same =
    told_job (content name) (λ bytes. job_with content (next bytes))
    (λ bytes. ComesTo content (next bytes) job) job asked
    (λ bytes. ComesTo-job content (next bytes) job asked) comes same
