use Rattle.std.proofs.Common.{◌≡◌, ◌++◌, map, take}
use Rattle.aeth_trace.specs.Words.{words_on}
use Rattle.aeth_schedule.proofs.placing.push_channel.Given as goal

-- The values of the words so far.
abbrev pub invariant-loop-place : goal.invariant-loop-place
invariant-loop-place l = l.values.items
    ≡ l.fn.values.items ++ map (λ row. row.value) (take l.place (words_on l.words l.channel))
