use Rattle.std.{proofs.Common.◌≡◌, proofs.Common.◌++◌, proofs.Common.map, specs.List.range_with_len}
use Rattle.aeth_components.specs.Making.{made_router}
use Rattle.aeth_components.proofs.making.push_routers.Given as goal

-- The routers so far.
abbrev pub invariant-loop-number : goal.invariant-loop-number
invariant-loop-number l =
    l.parts.items ≡ l.fn.parts.items ++ map (made_router l.chip l.kind) (range_with_len 0 l.number)
