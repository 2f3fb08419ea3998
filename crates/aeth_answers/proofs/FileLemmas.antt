-- Laws of files that are read and judged, one after the other.
use Rattle.std.proofs.Common.{◌≡◌, ◌≢◌, ◌≤◌, ◌<◌, IfOk, ℕ, List, length, Option, Some, Result, Ok}
use Rattle.std.proofs.Common.{Err, zero, suc, ◌+◌, ◌∙◌, [], ◌∷◌, None, ap, refl, subst, arith}
use Rattle.std.proofs.Common.{if◌then◌else◌, nat_le, le-leb}
use Rattle.std.proofs.lemmas.Bool.{lt-leb}
use Rattle.aeth_base.specs.{Faults.BrokenRule, Faults.Reads, declared.memory.NoMemory.NoMemory}
use Rattle.aeth_io.specs.Limits.{max_file_bytes}
use Rattle.aeth_answers.specs.declared.answer.Stop.{Stop, TheVariants.Ends, TheVariants.Memory}
use Rattle.aeth_answers.specs.Files.{judgement, text_file}
use Rattle.aeth_answers.specs.Refusal.{refused_file, too_long}
use Rattle.aeth_answers.specs.Job.{Job, done, not_granted}
use Rattle.aeth_answers.specs.Places.{Files, IsAfter, NoneFailed}
use Rattle.aeth_answers.specs.Status.{read_fault_status, refused_status, usage_status}
use Rattle.aeth_answers.specs.Stop.{Answers, Ended, GivesOrEnds, HandsOn, IfAnswer, Judges, Leaves}
use Rattle.aeth_answers.specs.Stop.{UnlessEnds}
use Rattle.aeth_answers.specs.Task.{ComesTo, IsAnswer, Judging, OnTold, Task, ends}
use Rattle.aeth_answers.proofs.TaskLemmas.{IsAfter-same, IsAfter-then, IsAnswer-ends, Leaves-reads}

-- Once a file was read that isn't too long, what comes next of its bytes is left.
pub Leaves-text_file : (old now : Files) (file name bytes : List ℕ) (next : List ℕ → Task)
    → IsAfter old now → NoneFailed old now
    → ((held : List ℕ) → old.content name ≡ Some held → bytes ≡ held)
    → length bytes ≤ max_file_bytes
    → Leaves old now (text_file file name next) (next bytes)
Leaves-text_file old now file name bytes next after clean read short =
    let judges : List ℕ → Task =
    λ held. if nat_le (length held) max_file_bytes then next held
    else ends (refused_file file too_long) in
    let goes : judges bytes ≡ next bytes = rw (le-leb (length bytes) max_file_bytes short) refl in
    subst (λ (rest : Task). Leaves old now (text_file file name next) rest) goes
    (Leaves-reads old now file name judges bytes after clean read)

-- There are so many bytes, however many.
some_bytes : (n : ℕ) → (bytes : List ℕ) × (length bytes ≡ n)
some_bytes zero = ([], refl)
some_bytes (suc n) = let (rest, count) = some_bytes n in (0 ∷ rest, ap suc count)

-- What holds of all bytes that are too many holds of those of a file that is too long.
on_long : (held : Option (List ℕ)) (Holds : List ℕ → Type 0)
    → ((bytes : List ℕ) → held ≡ Some bytes → max_file_bytes < length bytes)
    → ((bytes : List ℕ) → max_file_bytes < length bytes → Holds bytes) → OnTold held Holds
on_long None Holds long holds =
    let (bytes, count) = some_bytes (max_file_bytes + 1) in
    (bytes, holds bytes (omega (arith, count)))
on_long (Some bytes) Holds long holds = holds bytes (long bytes refl)

-- The refusal of a file that is too long ends a task that reads it.
pub IsAnswer-too_long : (old new : Files) (file name : List ℕ) (next : List ℕ → Task) (answer : Job)
    → NoneFailed old new
    → ((bytes : List ℕ) → old.content name ≡ Some bytes → max_file_bytes < length bytes)
    → answer ≡ refused_file file too_long → IsAnswer old new (text_file file name next) answer
IsAnswer-too_long old new file name next answer clean long is =
    let refused : answer.status ≡ refused_status = rw is refl in record {
      within = omega (arith, refused);
      command = λ usage. omega (arith, refused, usage);
      job = λ below. on_long (old.content name)
          (λ bytes. ComesTo old.content (if nat_le (length bytes) max_file_bytes then next bytes
          else ends (refused_file file too_long)) answer) long
          (λ bytes more. rw (lt-leb (length bytes) max_file_bytes more) is);
      faultless = λ below. clean;
      fault = λ fault. absurd (omega (arith, refused, fault));
    }

-- What holds over the same files holds of whatever a call comes to there.
pub UnlessEnds-same : {X : Type 0} (now : Files) (came : Result X Stop)
    → UnlessEnds came (NoneFailed now now)
UnlessEnds-same now (Ok value) = λ name. refl
UnlessEnds-same now (Err (Ends answer)) = tt
UnlessEnds-same now (Err Memory) = λ name. refl

-- No call failed, and then none failed, unless the task ends.
UnlessEnds-then : {X : Type 0} (old now new : Files) (came : Result X Stop)
    → NoneFailed old now → UnlessEnds came (NoneFailed now new)
    → UnlessEnds came (NoneFailed old new)
UnlessEnds-then old now new (Ok value) first more = λ name. more name ∙ first name
UnlessEnds-then old now new (Err (Ends answer)) first more = tt
UnlessEnds-then old now new (Err Memory) first more = λ name. more name ∙ first name

-- What begins with a judging that ends the task ends it.
pub Judges-stopped : {X Y A B : Type 0} (old now : Files) (first : Judging A) (part : A → Judging B)
    (view : X → A) (whole : Y → B) (stop : Stop) → Judges old now first view (Err stop)
    → Judges {X = Y} {A = B} old now (λ next. first (λ value. part value next)) whole (Err stop)
Judges-stopped old now first part view whole (Ends answer) took = record {
  after = took.after;
  faultless = tt;
  judges = λ next. took.judges (λ value. part value next);
}
Judges-stopped old now first part view whole Memory took =
    record { after = took.after; faultless = took.faultless; judges = tt }

-- A judging gave a value, and another then judges what comes of the value.
pub Judges-then : {X Y A B : Type 0} (old now new : Files) (first : Judging A) (part : A → Judging B)
    (view : X → A) (value : X) (whole : Y → B) (came : Result Y Stop)
    → Judges old now first view (Ok value) → Judges now new (part (view value)) whole came
    → Judges old new (λ next. first (λ value. part value next)) whole came
Judges-then old now new first part view value whole (Ok result) took more = record {
  after = IsAfter-then old now new took.after more.after;
  faultless = UnlessEnds-then old now new (Ok result) took.faultless more.faultless;
  judges = λ next newer answer answers. took.judges (λ value. part value next) newer answer
      (more.judges next newer answer answers);
}
Judges-then old now new first part view value whole (Err (Ends answer)) took more = record {
  after = IsAfter-then old now new took.after more.after;
  faultless = tt;
  judges = λ next. took.judges (λ value. part value next) new answer (more.judges next);
}
Judges-then {Y = Y} old now new first part view value whole (Err Memory) took more = record {
  after = IsAfter-then old now new took.after more.after;
  faultless = UnlessEnds-then {X = Y} old now new (Err Memory) took.faultless more.faultless;
  judges = tt;
}

-- A judging gave a value, of which another value is made.
pub Judges-made : {X Y A B : Type 0} (old new : Files) (first : Judging A) (made_of : A → B)
    (view : X → A) (value : X) (whole : Y → B) (made : Y) → whole made ≡ made_of (view value)
    → Judges old new first view (Ok value)
    → Judges old new (λ next. first (λ value. next (made_of value))) whole (Ok made)
Judges-made {B = B} old new first made_of view value whole made is took = record {
  after = took.after;
  faultless = took.faultless;
  judges = λ next newer answer answers. took.judges (λ value. next (made_of value)) newer answer
      (subst (λ (one : B). IsAnswer new newer (next one) answer) is answers);
}

-- What is handed on of a reader's answer is what a task goes on with that judges the bytes.
gives-told : {X E A : Type 0} (now : Files) (file : List ℕ) (rule_of : E → Option BrokenRule)
    (view : X → A) (told : Result A BrokenRule) (read : Result X E) (came : Result X Stop)
    → Reads rule_of view read told → HandsOn rule_of file read came
    → GivesOrEnds now now (judgement file told) view came
gives-told now file rule_of view told (Ok value) came reads hands =
    rw (hands, reads) (λ next new answer answers. answers)
gives-told now file rule_of view told (Err fault) (Ok value) reads hands = absurd hands
gives-told now file rule_of view told (Err fault) (Err (Ends answer)) reads hands =
    let broken : told ≡ Err hands.0 = rw hands.1 at reads in
    let refused : answer.status ≡ refused_status = rw hands.2 refl in
    λ next. rw (broken, ← hands.2)
    (IsAnswer-ends now answer (omega (arith, refused)) (λ usage. omega (arith, refused, usage)))
gives-told now file rule_of view told (Err fault) (Err Memory) reads hands = tt

pub Judges-told : {X E A : Type 0} (now : Files) (file : List ℕ) (rule_of : E → Option BrokenRule)
    (view : X → A) (told : Result A BrokenRule) (read : Result X E) (came : Result X Stop)
    → Reads rule_of view read told → HandsOn rule_of file read came
    → Judges now now (judgement file told) view came
Judges-told now file rule_of view told read came reads hands = record {
  after = IsAfter-same now;
  faultless = UnlessEnds-same now came;
  judges = gives-told now file rule_of view told read came reads hands;
}

-- What holds of what a reader gave holds of what is handed on.
pub HandsOn-keeps : {X E : Type 0} (rule_of : E → Option BrokenRule) (file : List ℕ)
    (Holds : X → Type 0) (read : Result X E) (came : Result X Stop)
    → IfOk read Holds → HandsOn rule_of file read came → IfOk came Holds
HandsOn-keeps rule_of file Holds (Ok value) came holds hands = rw hands holds
HandsOn-keeps rule_of file Holds (Err fault) (Ok value) holds hands = absurd hands
HandsOn-keeps rule_of file Holds (Err fault) (Err stop) holds hands = tt

-- What ends while it is judged ends the task.
pub Answers-stopped : {X A : Type 0} (old new : Files) (judging : Judging A) (view : X → A)
    (next : A → Task) (stop : Stop) → Judges old new judging view (Err stop)
    → Answers old new (judging next) (Err stop)
Answers-stopped old new judging view next (Ends answer) took =
    record { after = took.after; faultless = tt; answers = took.judges next }
Answers-stopped old new judging view next Memory took =
    record { after = took.after; faultless = took.faultless; answers = tt }

-- What answers what is left of a task answers the task.
left-answered : (old now new : Files) (task rest : Task) (came : Result Job Stop)
    → Leaves old now task rest → IfAnswer came (IsAnswer now new rest)
    → IfAnswer came (IsAnswer old new task)
left-answered old now new task rest (Ok answer) leaves answers = leaves new answer answers
left-answered old now new task rest (Err (Ends answer)) leaves answers = leaves new answer answers
left-answered old now new task rest (Err Memory) leaves answers = tt

-- A judging gave a value, and a call then answers what comes of it.
pub Answers-then : {X A : Type 0} (old now new : Files) (judging : Judging A) (view : X → A)
    (value : X) (next : A → Task) (came : Result Job Stop)
    → Judges old now judging view (Ok value) → Answers now new (next (view value)) came
    → Answers old new (judging next) came
Answers-then old now new judging view value next came took more = record {
  after = IsAfter-then old now new took.after more.after;
  faultless = UnlessEnds-then old now new came took.faultless more.faultless;
  answers = left-answered old now new (judging next) (next (view value)) came (took.judges next)
      more.answers;
}

-- The refusal of a file ends a task.
pub IsAnswer-refused : (now : Files) (file : List ℕ) (broken : BrokenRule) (answer : Job)
    → answer ≡ refused_file file broken
    → IsAnswer now now (ends (refused_file file broken)) answer
IsAnswer-refused now file broken answer is =
    rw is
    (IsAnswer-ends now (refused_file file broken) (omega arith) (λ usage. omega (arith, usage)))

-- A job that isn't granted ends a task.
pub IsAnswer-not_granted : (now : Files) (text : List ℕ) (answer : Job) → answer ≡ not_granted text
    → IsAnswer now now (ends (not_granted text)) answer
IsAnswer-not_granted now text answer is =
    rw is (IsAnswer-ends now (not_granted text) (omega arith) (λ usage. omega (arith, usage)))

-- An answer that was made, if memory wasn't wanting, is that of a task at its end.
ended-answered : (now : Files) (job : Job) (made : Result Job NoMemory) (came : Result Job Stop)
    → job.status < read_fault_status → job.status ≢ usage_status
    → IfOk made (λ answer. answer ≡ job) → Ended made came
    → IfAnswer came (IsAnswer now now (ends job))
ended-answered now job (Ok answer) came below command is hands =
    rw (hands, is) (IsAnswer-ends now job below command)
ended-answered now job (Err cause) came below command is hands = rw hands tt

pub Answers-ended : (now : Files) (job : Job) (made : Result Job NoMemory) (came : Result Job Stop)
    → job.status < read_fault_status → job.status ≢ usage_status
    → IfOk made (λ answer. answer ≡ job) → Ended made came
    → Answers now now (ends job) came
Answers-ended now job made came below command is hands = record {
  after = IsAfter-same now;
  faultless = UnlessEnds-same now came;
  answers = ended-answered now job made came below command is hands;
}

-- The same of a job that is done.
pub Answers-done : (now : Files) (text : List ℕ) (made : Result Job NoMemory)
    (came : Result Job Stop) → IfOk made (λ answer. answer ≡ done text) → Ended made came
    → Answers now now (ends (done text)) came
Answers-done now text made came is hands =
    Answers-ended now (done text) made came (omega arith) (λ usage. omega (arith, usage)) is hands
