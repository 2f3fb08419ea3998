-- Files that are read and judged.
--
--   text_file      a file that isn't too long
--   judgement      what a file tells, or the end by the rule that it breaks
--   judged_file      a file that is read and judged
-- This project's own.
use Rattle.std.proofs.Common.{ℕ, nat_le, List, length, Result, Ok, Err, if◌then◌else◌}
use Rattle.aeth_base.specs.Faults.{BrokenRule}
use Rattle.aeth_io.specs.Limits.{max_file_bytes}
use Rattle.aeth_answers.specs.Refusal.{refused_file, too_long}
use Rattle.aeth_answers.specs.Task.{Judging, ends, reads}

-- A file is read, by its word in texts and its name on the shelf, and mustn't be too long.
abbrev pub text_file : List ℕ → List ℕ → Judging (List ℕ)
text_file file name next =
    reads file name
    (λ bytes. if nat_le (length bytes) max_file_bytes then next bytes
    else ends (refused_file file too_long))

-- What comes of a value, or the end by the rule that the file breaks.
abbrev pub judgement : {A : Type 0} → List ℕ → Result A BrokenRule → Judging A
judgement file (Ok value) next = next value
judgement file (Err broken) next = ends (refused_file file broken)

-- A file is read, and judged by what its bytes tell.
abbrev pub judged_file : {A : Type 0} → List ℕ → (List ℕ → Result A BrokenRule) → List ℕ
    → Judging A
judged_file file told_by name next =
    text_file file name (λ bytes. judgement file (told_by bytes) next)
