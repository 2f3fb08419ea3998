-- A sink in memory, and what one call on it does.
-- This project's own.
use Rattle.std.proofs.Common.{ℕ, ◌-◌, ◌||◌, ◌==◌, ◌++◌, nat_le, min, Bool, List, length, take}
use Rattle.std.proofs.Common.{if◌then◌else◌}
use Rattle.std.specs.List.{list_any}
use Rattle.aeth_io.specs.Causes.{one_more}

-- What a sink in memory holds and how many bytes it takes, in all and at a call; the numbers of the
-- calls that fail, counted from 0; and how many calls were made, and how many failed.
pub record SinkState : Type 0 where
  pub bytes : List ℕ
  pub room : ℕ
  pub most : ℕ
  pub fail : List ℕ
  pub calls : ℕ
  pub faults : ℕ

-- The next call fails: its number is listed, or the room is used up.
abbrev pub is_failing : SinkState → Bool
is_failing sink = nat_le sink.room (length sink.bytes) || list_any (λ n. n == sink.calls) sink.fail

-- How many bytes a call takes of a piece where it doesn't fail.
abbrev pub taken_of : SinkState → List ℕ → ℕ
taken_of sink piece = min (min (length piece) sink.most) (sink.room - length sink.bytes)

-- The sink after a call that is handed a piece.
abbrev pub after_write : SinkState → List ℕ → SinkState
after_write sink piece =
    if is_failing sink
    then record sink { calls = one_more sink.calls; faults = one_more sink.faults }
    else record sink {
      bytes = sink.bytes ++ take (taken_of sink piece) piece;
      calls = one_more sink.calls;
    }
