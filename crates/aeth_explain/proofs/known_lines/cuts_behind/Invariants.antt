use Rattle.std.proofs.Common.{◌≡◌, ◌++◌, drop}
use Rattle.aeth_explain.specs.CutsText.{cuts_behind}
use Rattle.aeth_explain.proofs.known_lines.cuts_behind.Given as goal

-- The lists so far and those that are left.
abbrev pub invariant-loop-one : goal.invariant-loop-one
invariant-loop-one l = l.cuts ++ cuts_behind (drop l.one-index l.known) ≡ cuts_behind l.known
