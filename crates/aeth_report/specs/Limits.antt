-- The numbers of the rules that this crate is the lowest to need.
-- This project's own.
use Rattle.std.proofs.Common.{ℕ}

-- The words, the landings and the flits of a log are at most so many.
abbrev pub max_total : ℕ
max_total = 4294967295
