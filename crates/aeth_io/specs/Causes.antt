-- Counted faults, and what a failure needs as its cause.
-- This project's own.
use Rattle.std.proofs.Common.{ℕ, ◌≡◌, ◌+◌, ◌-◌, ◌^◌, ◌<◌, ◌⊎◌, min, List, Result, OnErr}

-- The greatest number of a counter of 64 bits, which a counter that has reached it keeps.
abbrev pub greatest_count : ℕ
greatest_count = 2 ^ 64 - 1

-- One more, where a counter can count it.
abbrev pub one_more : ℕ → ℕ
one_more n = min (n + 1) greatest_count

-- A count rose from before a call to after it, or stands where it can't rise any more.
abbrev pub Rose : ℕ → ℕ → Type 0
Rose before after = (before < after) ⊎ (after ≡ greatest_count)

-- A failure comes only where the count of faults rose.
abbrev pub HasCause : {T E : Type 0} → Result T E → ℕ → ℕ → Type 0
HasCause result before after = OnErr result (Rose before after)

-- The counts of faults of all names are as before.
abbrev pub IsFaultless : (List ℕ → ℕ) → (List ℕ → ℕ) → Type 0
IsFaultless before after = (name : List ℕ) → after name ≡ before name
