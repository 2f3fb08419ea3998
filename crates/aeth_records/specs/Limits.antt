-- The numbers of reading records.
-- This project's own.
use Rattle.std.proofs.Common.{ℕ}

-- How many bytes a short row has: room is made for so many rows of the file.
abbrev pub short_row : ℕ
short_row = 10
