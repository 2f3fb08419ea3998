use Rattle.std.proofs.Common.{◌≡◌, drop}
use Rattle.aeth_explain.specs.CutsText.{matched}
use Rattle.aeth_explain.proofs.known_lines.matched.Given as goal

-- The lines that are left are to tell of the tries that are left.
abbrev pub invariant-loop-one : goal.invariant-loop-one
invariant-loop-one l =
    matched l.line (drop l.one-index l.known) l.left ≡ matched 2 l.known l.tries
