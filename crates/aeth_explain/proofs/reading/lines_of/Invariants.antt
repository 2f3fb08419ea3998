use Rattle.std.proofs.Common.{◌≡◌, map, take}
use Rattle.aeth_explain.specs.CutsText.{line_of}
use Rattle.aeth_explain.proofs.reading.lines_of.Given as goal

-- The lines of the tries so far.
abbrev pub invariant-loop-trial : goal.invariant-loop-trial
invariant-loop-trial l = l.lines.items ≡ map line_of (take l.trial-index l.trials)
