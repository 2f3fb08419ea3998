-- Laws of the promise: what an answer keeps of it, once its text was written or cut short.
use Rattle.std.proofs.Common.{◌≡◌, ◌∙◌, ◌≤◌, ◌<◌, ℕ, List, Option, Some, None, inl, inr, ap, refl}
use Rattle.std.proofs.Common.{subst, sym, arith}
use Rattle.std.proofs.Math.Nat.{eq-or-lt_of_le}
use Rattle.std.proofs.lemmas.Option.{same_Some}
use Rattle.aeth_answers.specs.Job.{Job, err_text, usage}
use Rattle.aeth_answers.specs.Places.{Files, IsAfter, NoneFailed, Places, files_of}
use Rattle.aeth_answers.specs.Status.{read_fault_status, usage_status, write_fault_status}
use Rattle.aeth_answers.specs.Task.{IsReadFault}
use Rattle.aeth_answers.specs.Writing.{EndsWith, IsCutShort, IsWritten}
use Rattle.aeth_answers.proofs.TaskLemmas.{ComesTo-job}
use Rattle.aeth_run_commands.specs.Outcomes.{Outcomes}
use Rattle.aeth_cli.specs.declared.commands.Command.{Command}
use Rattle.aeth_cli.specs.Commands.{IsAnswerTo, WordsComeTo, asked_job, command_of, task_of}
use Rattle.aeth_cli.specs.Promise.{Promise, sinks_of}
use Rattle.aeth_io.specs.declared.shelf.Shelf as shelf
use Rattle.aeth_io.specs.declared.sink.Sink as sink

module _ (outcomes : Outcomes) (old new : Files) (answer : Job) where
  -- The status of an answer is at most that of a read fault.
  answer_within : (said : Option Command) → IsAnswerTo outcomes old new said answer
      → answer.status ≤ read_fault_status
  answer_within None is = rw is.0 (omega arith)
  answer_within (Some command) is = is.within

  -- Below that, the words come to the answer.
  answer_comes : (said : Option Command) → IsAnswerTo outcomes old new said answer
      → answer.status < read_fault_status → WordsComeTo outcomes old.content said answer
  answer_comes None is below = is.0
  answer_comes (Some command) is below = is.job below

  -- And no call on the shelf failed.
  answer_faultless : (said : Option Command) → IsAnswerTo outcomes old new said answer
      → answer.status < read_fault_status → NoneFailed old new
  answer_faultless None is below = is.1
  answer_faultless (Some command) is below = is.faultless below

  -- An answer is usage where the words are no command.
  answer_is_usage : (said : Option Command) → IsAnswerTo outcomes old new said answer
      → answer.status ≡ usage_status → said ≡ None
  answer_is_usage None is _ = refl
  answer_is_usage (Some command) is named = absurd (is.command named)

  -- A read fault answers a command.
  answer_is_fault : (said : Option Command) → IsAnswerTo outcomes old new said answer
      → answer.status ≡ read_fault_status
      → (command : Command) × (said ≡ Some command)
      × IsReadFault old new (task_of outcomes command) answer
  answer_is_fault None is fault = absurd (omega (arith, ap (λ (job : Job). job.status) is.0, fault))
  answer_is_fault (Some command) is fault = (command, refl, is.fault fault)

-- What words come to is their job, where the contents on which it rests are told.
words_job : (outcomes : Outcomes) (content : List ℕ → Option (List ℕ))
    (said : Option Command) (answer asked : Job) → WordsComeTo outcomes content said answer
    → asked_job outcomes content said ≡ Some asked → answer ≡ asked
words_job outcomes content None answer asked is told = is ∙ same_Some usage asked told
words_job outcomes content (Some command) answer asked is told =
    ComesTo-job content (task_of outcomes command) answer asked is told

-- The text of an answer that isn't done goes to `err`.
err_text-whole : (answer : Job) → answer.status ≡ read_fault_status → err_text answer ≡ answer.text
err_text-whole answer fault = rw fault refl

module _ {H O E : Type 0} (outcomes : Outcomes) (h : shelf.Ghosts H) (o : sink.Ghosts O)
    (e : sink.Ghosts E) (words : List (List ℕ)) (old new : Places H O E)
    (after : IsAfter (files_of h old.shelf) (files_of h new.shelf)) where
  module _ (answer : Job) (is : IsAnswerTo outcomes (files_of h old.shelf) (files_of h new.shelf)
      (command_of words) answer)
      (out_later : o.faults old.out ≤ o.faults new.out)
      (err_later : e.faults old.err ≤ e.faults new.err) where
    -- Once the text of an answer was written, its status keeps the promise.
    Promise-written : IsWritten o e (sinks_of old) (sinks_of new) answer
        → Promise outcomes h o e words old new answer.status
    Promise-written written =
        let from = files_of h old.shelf in
        let to = files_of h new.shelf in
        let said = command_of words in
        let within = answer_within outcomes from to answer said is in
        let comes = answer_comes outcomes from to answer said is in
        let same : answer.status < read_fault_status → (asked : Job)
        → asked_job outcomes from.content said ≡ Some asked → answer ≡ asked =
        λ below asked told. words_job outcomes from.content said answer asked (comes below) told in
        record {
          statuses = omega (arith, within);
          shelf_is = after;
          out_later = out_later;
          err_later = err_later;
          status_is = λ below asked told. ap (λ (job : Job). job.status) (same below asked told);
          out_is = λ below asked told. rw (← same below asked told) written.out;
          err_is = λ below asked told. rw (← same below asked told) written.err;
          answered = λ below. (answer, comes below, refl, written.out, written.err);
          answered_shelf = answer_faultless outcomes from to answer said is;
          err_kept = written.err_kept;
          out_kept = λ _. written.out_kept;
          usage_only = answer_is_usage outcomes from to answer said is;
          read_fault = λ fault. let it = answer_is_fault outcomes from to answer said is fault in (
            it.0,
            answer,
            it.1,
            it.2,
            rw (← err_text-whole answer fault) written.err,
            written.out_kept (λ done. omega (arith, fault, done)),
          );
          write_fault = λ fault. absurd (omega (arith, within, fault));
          memory_shelf = λ memory. absurd (omega (arith, within, memory));
          memory_out = λ memory. absurd (omega (arith, within, memory));
          memory_err = λ memory. absurd (omega (arith, within, memory));
          complete = λ out_fine err_fine shelf_fine.
              elim (eq-or-lt_of_le within) [
                | inl fault ↦
                    let it = answer_is_fault outcomes from to answer said is fault in
                    absurd (shelf_fine it.2.name it.2.rose)
                | inr below ↦ inl below
              ];
        }

    -- A sink that failed gives a write fault.
    Promise-cut : IsCutShort o e (sinks_of old) (sinks_of new) answer
        → Promise outcomes h o e words old new write_fault_status
    Promise-cut cut = record {
      statuses = omega arith;
      shelf_is = after;
      out_later = out_later;
      err_later = err_later;
      status_is = λ below. absurd (omega (arith, below));
      out_is = λ below. absurd (omega (arith, below));
      err_is = λ below. absurd (omega (arith, below));
      answered = λ below. absurd (omega (arith, below));
      answered_shelf = λ below. absurd (omega (arith, below));
      err_kept = λ done. absurd (omega (arith, done));
      out_kept = λ below. absurd (omega (arith, below));
      usage_only = λ usage. absurd (omega (arith, usage));
      read_fault = λ fault. absurd (omega (arith, fault));
      write_fault = λ _. (answer, is, cut);
      memory_shelf = λ memory. absurd (omega (arith, memory));
      memory_out = λ memory. absurd (omega (arith, memory));
      memory_err = λ memory. absurd (omega (arith, memory));
      complete = λ out_fine err_fine _. elim cut [
        | inl out ↦ absurd (out_fine out.0)
        | inr err ↦ absurd (err_fine err.0)
      ];
    }

    -- Either way the status keeps the promise.
    pub Promise-ended : (status : ℕ)
        → EndsWith o e (sinks_of old) (sinks_of new) answer status
        → Promise outcomes h o e words old new status
    Promise-ended status ends =
        let Keeps : ℕ → Type 0 = λ one. Promise outcomes h o e words old new one in
        elim ends.ended [
          | inl whole ↦ subst Keeps (sym whole.0) (Promise-written whole.1)
          | inr cut ↦ subst Keeps (sym cut.0) (Promise-cut cut.1)
        ]
