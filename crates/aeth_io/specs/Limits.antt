-- The size of a file.
-- This project's own.
use Rattle.std.proofs.Common.{ℕ}

-- A file has at most so many bytes.
abbrev pub max_file_bytes : ℕ
max_file_bytes = 33554432
