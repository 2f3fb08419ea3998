use Rattle.std.proofs.Common.{take}
use Rattle.aeth_clocked.specs.Resting.{HasNoFlit}
use Rattle.aeth_router.specs.Router.{is_among, numbers_of}
use Rattle.aeth_router.proofs.router.are_empty.Given as goal

-- Each wire so far is empty.
abbrev pub invariant-loop-link : goal.invariant-loop-link
invariant-loop-link l = HasNoFlit (is_among (take l.link-index (numbers_of l.links))) l.wires
