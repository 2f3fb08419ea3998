-- The numbers of the rules that this crate is the lowest to need.
-- This project's own.
use Rattle.std.proofs.Common.{ℕ}

-- A session has at most so many words.
abbrev pub max_session_words : ℕ
max_session_words = 1000000
