use Rattle.std.{proofs.Common.◌≡◌, proofs.Common.◌++◌, proofs.Common.map, specs.List.range_with_len}
use Rattle.aeth_components.specs.Making.{made_stage}
use Rattle.aeth_components.proofs.making.push_link.Given as goal

-- The stages so far.
abbrev pub invariant-loop-place : goal.invariant-loop-place
invariant-loop-place l =
    l.parts.items
    ≡ l.fn.parts.items ++ map (made_stage l.chip.links l.link.0) (range_with_len 0 l.place)
