use Rattle.std.proofs.Common.{◌≡◌}
use Rattle.aeth_components.specs.Counting.{written_over}
use Rattle.aeth_components.proofs.counting.note.Given as goal

-- The places so far are written.
abbrev pub invariant-loop-place : goal.invariant-loop-place
invariant-loop-place l = l.landings ≡ written_over l.place l.from l.cycle l.fn.landings
