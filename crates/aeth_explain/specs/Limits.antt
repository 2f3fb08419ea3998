-- Limits of certificates, as plain numbers. This project's own.
use Rattle.std.proofs.Common.{ℕ}

-- The greatest number of cuts that one try may have.
abbrev pub max_cuts : ℕ
max_cuts = 4294967295
