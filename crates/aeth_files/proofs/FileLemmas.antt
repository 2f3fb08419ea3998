-- Laws of a file that is read, and then judged by what its bytes tell.
use Rattle.std.proofs.Common.{ℕ, List, Result, Ok, Err, Vec, Global}
use Rattle.aeth_base.specs.Faults.{BrokenRule}
use Rattle.aeth_answers.specs.{declared.answer.Stop.Stop, Files.judged_file, Files.judgement}
use Rattle.aeth_answers.specs.{Files.text_file, Places.Files, Stop.Judges}
use Rattle.aeth_answers.proofs.FileLemmas.{Judges-stopped, Judges-then}

module _ {A : Type 0} (file name : List ℕ) (told_by : List ℕ → Result A BrokenRule)
    (old now : Files) where
  -- It can't be read, or is too long.
  pub file-unread : (stop : Stop)
      → Judges {X = Vec ℕ Global} old now (text_file file name) (λ bytes. bytes.items) (Err stop)
      → Judges {X = A} old now (judged_file file told_by name) (λ value. value) (Err stop)
  file-unread stop took =
      Judges-stopped old now (text_file file name) (λ bytes. judgement file (told_by bytes))
      (λ (bytes : Vec ℕ Global). bytes.items) (λ (value : A). value) stop took

  -- It was read, and what its bytes tell is judged.
  pub file-judged : (bytes : Vec ℕ Global) (came : Result A Stop)
      → Judges old now (text_file file name) (λ (one : Vec ℕ Global). one.items) (Ok bytes)
      → Judges now now (judgement file (told_by bytes.items)) (λ (value : A). value) came
      → Judges old now (judged_file file told_by name) (λ (value : A). value) came
  file-judged bytes came took judged =
      Judges-then old now now (text_file file name) (λ bytes. judgement file (told_by bytes))
      (λ (one : Vec ℕ Global). one.items) bytes (λ (value : A). value) came took judged
