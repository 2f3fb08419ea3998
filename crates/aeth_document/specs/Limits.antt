-- The greatest place of a walk.
-- This project's own.
use Rattle.std.proofs.Common.{ℕ}

-- Places end at this one: a walk that is longer counts each further check as the last place. Files
-- are far too short for that.
abbrev pub last_place : ℕ
last_place = 4294967295
