use Rattle.std.proofs.Common.{◌≡◌, ◌++◌, drop, map, take}
use Rattle.aeth_components.specs.Entering.{entered}
use Rattle.aeth_components.proofs.parts.enter_all.Given as goal

-- Rows have entered the components so far.
abbrev pub invariant-loop-number : goal.invariant-loop-number
invariant-loop-number l =
    l.parts ≡ map (entered l.rows) (take l.number l.fn.parts) ++ drop l.number l.fn.parts
