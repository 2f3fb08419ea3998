-- What a call on a shelf reads of a file.
-- This project's own.
use Rattle.std.proofs.Common.{ℕ, ◌≡◌, ◌≤◌, List, length, take, drop}

-- The first n bytes of a buffer are the next ones of the file from a place on.
abbrev pub ReadsFrom : List ℕ → ℕ → ℕ → List ℕ → Type 0
ReadsFrom bytes at n into = take n into ≡ take n (drop at bytes)

-- Where none were read, the file has no more from that place on.
abbrev pub IsEndOf : List ℕ → ℕ → ℕ → Type 0
IsEndOf bytes at n = n ≡ 0 → length bytes ≤ at
