-- The numbers of the rules on traces. A cycle is at most the most cycles of a run.
-- This project's own.
use Rattle.std.proofs.Common.{ℕ}

-- The most rows of a file of words or of receivers.
abbrev pub max_rows : ℕ
max_rows = 1000000

-- The most rows of a file of switches.
abbrev pub max_switch_rows : ℕ
max_switch_rows = 1024

-- The greatest value of a word.
abbrev pub max_value : ℕ
max_value = 4294967295

-- The most words that a receiver takes in a cycle.
abbrev pub max_pull : ℕ
max_pull = 255

-- What a receiver takes in a cycle at most where no row says it.
abbrev pub usual_pull : ℕ
usual_pull = 2
