use Rattle.std.proofs.Common.{◌≡◌, None, replicate, take}
use Rattle.aeth_router.proofs.router.are_none.Given as goal

-- No place so far has a flit.
abbrev pub invariant-loop-latched : goal.invariant-loop-latched
invariant-loop-latched l = take l.latched-index l.held ≡ replicate l.latched-index None
