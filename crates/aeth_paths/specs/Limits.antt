-- Limits of costs, as plain numbers. This project's own.
use Rattle.std.proofs.Common.{ℕ}

-- The greatest cost of a link.
abbrev pub max_cost : ℕ
max_cost = 1000
