-- Limits of the words of a command that plays a run.
-- This project's own.
use Rattle.std.proofs.Common.{ℕ}

-- The greatest turn that a command asks for.
abbrev pub max_turn : ℕ
max_turn = 1000000
