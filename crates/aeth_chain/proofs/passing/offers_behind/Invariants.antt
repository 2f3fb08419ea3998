use Rattle.std.proofs.Common.{◌≡◌, filter, map, nat_lt}
use Rattle.std.specs.List.{range_with_len}
use Rattle.aeth_chain.specs.{ChainRun.offer_behind, Lanes.leg_in}
use Rattle.aeth_chain.proofs.passing.offers_behind.Given as goal

-- What is offered of the words so far.
abbrev pub invariant-loop-place : goal.invariant-loop-place
invariant-loop-place l = l.passed.items
    ≡ filter (λ offer. nat_lt offer.cycle l.lane.cycles)
    (map (offer_behind l.lane.receivers.now l.lane.cycles (leg_in l.lane) l.lane.offers.now)
    (range_with_len 0 l.place))
