-- Limits of the words of a command line.
-- This project's own.
use Rattle.std.proofs.Common.{ℕ}

-- The greatest number of cycles of which a command prints what the links carry.
abbrev pub max_logged_cycles : ℕ
max_logged_cycles = 10000
