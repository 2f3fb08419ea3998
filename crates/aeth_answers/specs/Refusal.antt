-- Refusal lines: the first rule that a file breaks, its place and the value that broke it.
-- This project's own.
use Rattle.std.proofs.Common.{ℕ, ◌++◌, List, codes, decimal}
use Rattle.aeth_base.specs.Faults.{BrokenRule}
use Rattle.aeth_base.specs.declared.shown.Shown.{Shown}
use Rattle.aeth_base.specs.declared.shown.Shown.TheVariants.{Nothing, Odd, Number, Word}
use Rattle.aeth_answers.specs.{Job.Job, Status.refused_status}

-- The value as a refusal line shows it.
abbrev pub value_text : Shown → List ℕ
value_text Nothing = codes "-"
value_text Odd = codes "?"
value_text (Number n) = decimal n
value_text (Word name) = name

-- A refusal line up to its value.
abbrev pub refusal_front : List ℕ → ℕ → List ℕ → ℕ → List ℕ
refusal_front file rule name place =
    codes "refused " ++ file ++ codes " " ++ decimal rule ++ codes " " ++ name ++ codes " "
    ++ decimal place ++ codes " "

-- `refused FILE RULE NAME PLACE VALUE`.
abbrev pub refusal_text : List ℕ → BrokenRule → List ℕ
refusal_text file broken =
    refusal_front file broken.rule broken.name broken.place ++ value_text broken.value
    ++ codes "\n"

-- A file is refused for a rule.
abbrev pub refused_file : List ℕ → BrokenRule → Job
refused_file file broken = record { status = refused_status; text = refusal_text file broken }

-- The rule that comes before those of each kind of file: it isn't too long.
abbrev pub too_long : BrokenRule
too_long = record { rule = 0; name = codes "TooLong"; place = 0; value = Nothing }
