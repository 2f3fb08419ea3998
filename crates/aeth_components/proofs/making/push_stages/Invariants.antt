use Rattle.std.proofs.Common.{◌≡◌, ◌++◌}
use Rattle.aeth_components.specs.Making.{made_stages}
use Rattle.aeth_components.proofs.making.push_stages.Given as goal

-- The stages of the links so far.
abbrev pub invariant-loop-number : goal.invariant-loop-number
invariant-loop-number l =
    l.parts.items ≡ l.fn.parts.items ++ made_stages l.chip.links l.number
