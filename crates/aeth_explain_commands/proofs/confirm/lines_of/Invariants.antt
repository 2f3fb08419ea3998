use Rattle.std.proofs.Common.{◌≡◌, map, take}
use Rattle.aeth_explain.specs.CutsText.{line_of}
use Rattle.aeth_explain_commands.proofs.confirm.lines_of.Given as goal

-- The lines of the tries so far.
abbrev pub invariant-loop-i : goal.invariant-loop-i
invariant-loop-i l = l.lines.items ≡ map line_of (take l.i l.tries)
