-- Limits of the words of a command on designs.
-- This project's own.
use Rattle.std.proofs.Common.{ℕ}

-- The greatest gap that a command asks for, in slots.
abbrev pub max_gap : ℕ
max_gap = 4096
