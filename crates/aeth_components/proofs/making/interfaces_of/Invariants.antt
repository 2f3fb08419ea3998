use Rattle.std.{proofs.Common.◌≡◌, proofs.Common.map, specs.List.range_with_len}
use Rattle.aeth_components.specs.Making.{made_interface}
use Rattle.aeth_components.proofs.making.interfaces_of.Given as goal

-- The interfaces so far.
abbrev pub invariant-loop-number : goal.invariant-loop-number
invariant-loop-number l =
    l.parts.items ≡ map (made_interface l.chip l.rooms) (range_with_len 0 l.number)
