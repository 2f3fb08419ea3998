-- A file of one word, and why it is refused.
use Rattle.std.proofs.Common.{ℕ, List, length, nat_le, Option, Some, None, Result, Ok, Err, codes}
use Rattle.std.proofs.Common.{if◌then◌else◌, nat_lt}
use Rattle.aeth_base.specs.Faults.{BrokenRule}
use Rattle.aeth_base.specs.declared.shown.Shown.TheVariants.{Nothing, Number}
use Rattle.aeth_ground_tests.specs.declared.word_file.WordFault.{WordFault}
use Rattle.aeth_ground_tests.specs.declared.word_file.WordFault.TheVariants.{NoWord, TooLong}
use Rattle.aeth_ground_tests.specs.declared.word_file.WordFault.TheVariants.{Memory}

-- There is no word.
abbrev pub no_word : BrokenRule
no_word = record { rule = 0; name = codes "NoWord"; place = 0; value = Nothing }

-- A word is too long.
abbrev pub too_long : ℕ → BrokenRule
too_long size = record { rule = 1; name = codes "TooLong"; place = 7; value = Number size }

-- The rule that a fault shows.
abbrev pub rule_of : WordFault → Option BrokenRule
rule_of NoWord = Some no_word
rule_of (TooLong broken) = Some record {
  rule = 1;
  name = codes "TooLong";
  place = broken.place;
  value = broken.value;
}
rule_of Memory = None

-- A word has at most 4 bytes.
abbrev pub check_word : List ℕ → Result Unit BrokenRule
check_word text = if nat_le (length text) 4 then Ok tt else Err (too_long (length text))

-- The word of a file.
abbrev pub word_of : List ℕ → Result (List ℕ) BrokenRule
word_of text =
    if nat_lt 0 (length text)
    then (if nat_le (length text) 4 then Ok text else Err (too_long (length text)))
    else Err no_word
