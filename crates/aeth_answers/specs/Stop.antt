-- What a call does of a task: all of it, with an answer; or a part, of whose value the next comes.
--
--   Leaves              once some of its files were read, the rest of a task is left
--   IfAnswer            what holds of the answer that a call comes to, if memory isn't wanting
--   Answers             a call answers a task
--   UnlessEnds          what holds of a call that gives a value, or for which memory was wanting
--   GivesOrEnds, Judges      a call gives the value of what it judges, or the task ends there
--   Refuses, HandsOn    a call hands on what a reader of a file gave, or refuses the file
--   Ended               a call hands on an answer, if memory wasn't wanting for it
-- This project's own.
use Rattle.std.proofs.Common.{ℕ, ◌≡◌, List, Option, Some, Result, Ok, Err}
use Rattle.std.specs.Prelude.{⊤}
use Rattle.aeth_base.specs.{Faults.BrokenRule, declared.memory.NoMemory.NoMemory}
use Rattle.aeth_answers.specs.{declared.answer.Stop.Stop, declared.answer.Stop.TheVariants.Ends}
use Rattle.aeth_answers.specs.{declared.answer.Stop.TheVariants.Memory, Job.Job, Places.Files}
use Rattle.aeth_answers.specs.{Places.IsAfter, Places.NoneFailed, Refusal.refused_file}
use Rattle.aeth_answers.specs.{Task.IsAnswer, Task.Judging, Task.Task}

-- Once some files of a task were read, so that the shelf went from the old files to these, the rest
-- of it is left: what answers the rest answers the task.
abbrev pub Leaves : Files → Files → Task → Task → Type 0
Leaves old now task rest =
    (new : Files) (answer : Job) → IsAnswer now new rest answer → IsAnswer old new task answer

-- What holds of the answer that a call comes to, at its end or before, if memory isn't wanting.
abbrev pub IfAnswer : Result Job Stop → (Job → Type 0) → Type 0
IfAnswer (Ok answer) Holds = Holds answer
IfAnswer (Err (Ends answer)) Holds = Holds answer
IfAnswer (Err Memory) Holds = ⊤

-- What holds where a call gives a value and where memory was wanting, but not where a task ends.
abbrev pub UnlessEnds : {X : Type 0} → Result X Stop → Type 0 → Type 0
UnlessEnds (Ok value) Holds = Holds
UnlessEnds (Err (Ends answer)) Holds = ⊤
UnlessEnds (Err Memory) Holds = Holds

-- A call answers a task: its answer is one to the task, and whatever it comes to, it only read. Want
-- of memory stands for no fault of the shelf.
pub record Answers (old new : Files) (task : Task) (result : Result Job Stop) : Type 0 where
  pub after : IsAfter old new
  pub faultless : UnlessEnds result (NoneFailed old new)
  pub answers : IfAnswer result (IsAnswer old new task)

-- Whatever comes next: what comes next of the value is left, or the task ends there with an answer,
-- or memory was wanting.
abbrev pub GivesOrEnds : {X A : Type 0} → Files → Files → Judging A → (X → A) → Result X Stop
    → Type 0
GivesOrEnds {X} {A} old new judging view (Ok value) =
    (next : A → Task) → Leaves old new (judging next) (next (view value))
GivesOrEnds {X} {A} old new judging view (Err (Ends answer)) =
    (next : A → Task) → IsAnswer old new (judging next) answer
GivesOrEnds {X} {A} old new judging view (Err Memory) = ⊤

-- A call judges: it gives a value or ends the task, and whatever it comes to, it only read. Neither
-- a value nor want of memory stands for a fault of the shelf.
pub record Judges {X A : Type 0} (old new : Files) (judging : Judging A) (view : X → A)
    (result : Result X Stop) : Type 0 where
  pub after : IsAfter old new
  pub faultless : UnlessEnds result (NoneFailed old new)
  pub judges : GivesOrEnds old new judging view result

-- A call refuses a file by the rule that a fault shows, or memory was wanting.
abbrev pub Refuses : {X : Type 0} → List ℕ → Option BrokenRule → Result X Stop → Type 0
Refuses file shown (Ok value) = ⊥
Refuses file shown (Err (Ends answer)) =
    (broken : BrokenRule) × (shown ≡ Some broken) × (answer ≡ refused_file file broken)
Refuses file shown (Err Memory) = ⊤

-- A call hands on what a reader gave, or refuses the file by the reader's fault.
abbrev pub HandsOn : {X E : Type 0} → (E → Option BrokenRule) → List ℕ → Result X E
    → Result X Stop → Type 0
HandsOn rule_of file (Ok value) came = came ≡ Ok value
HandsOn rule_of file (Err fault) came = Refuses file (rule_of fault) came

-- A call hands on an answer, if memory wasn't wanting for it.
abbrev pub Ended : Result Job NoMemory → Result Job Stop → Type 0
Ended (Ok answer) came = came ≡ Ok answer
Ended (Err cause) came = came ≡ Err Memory
