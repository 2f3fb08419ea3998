use Rattle.std.proofs.Common.{◌∙◌, ◌≡◌, ap, filter, length, map, arith, nat_lt}
use Rattle.std.specs.List.{range_with_len}
use Rattle.aeth_server.specs.WordCycles.{taking_cycle}
use Rattle.aeth_chain.specs.{ChainRun.offer_behind, Lanes.leg_in, Lanes.server_in}
use Rattle.aeth_chain.specs.{declared.passing.Offer.Offer}
use Rattle.aeth_chain.proofs.LaneLemmas.{cycles-at, cycles-count, kept-more, taking-most}
use Rattle.aeth_chain.proofs.passing.offers_behind.Goals as goal

-- There are as many cycles as words.
pub offer_behind-offer-requires-clause-place : goal.offer_behind-offer-requires-clause-place
offer_behind-offer-requires-clause-place c =
    let count = cycles-count (taking_cycle (server_in c.args.lane.now) c.args.lane.now.cycles)
    c.args.taken.now (length c.args.lane.now.offers.now) c.requires.taken in
    omega (arith, count, c.loop-place-test.true)

pub offer_behind-offer-requires-clause-taken : goal.offer_behind-offer-requires-clause-taken
offer_behind-offer-requires-clause-taken c =
    let count = cycles-count (taking_cycle (server_in c.args.lane.now) c.args.lane.now.cycles)
    c.args.taken.now (length c.args.lane.now.offers.now) c.requires.taken in
    cycles-at (taking_cycle (server_in c.args.lane.now) c.args.lane.now.cycles) c.args.taken.now
    (length c.args.lane.now.offers.now) c.requires.taken c.loop-place.place
    (omega (arith, count, c.loop-place-test.true))

pub offer_behind-offer-requires-clause-within : goal.offer_behind-offer-requires-clause-within
offer_behind-offer-requires-clause-within c =
    let count = cycles-count (taking_cycle (server_in c.args.lane.now) c.args.lane.now.cycles)
    c.args.taken.now (length c.args.lane.now.offers.now) c.requires.taken in
    let at = cycles-at (taking_cycle (server_in c.args.lane.now) c.args.lane.now.cycles)
    c.args.taken.now (length c.args.lane.now.offers.now) c.requires.taken c.loop-place.place
    (omega (arith, count, c.loop-place-test.true)) in
    let most = taking-most c.args.lane.now c.requires.lane c.loop-place.place in
    omega (arith, at, most)

-- What comes within the run is behind the others.
pub loop-place-preserved : goal.loop-place-preserved
loop-place-preserved c =
    kept-more (λ (one : Offer). nat_lt one.cycle c.args.lane.now.cycles)
    (offer_behind c.args.lane.now.receivers.now c.args.lane.now.cycles (leg_in c.args.lane.now)
    c.args.lane.now.offers.now) _ _ c.loop-place.place c.offer_behind-offer.result
    c.loop-place.invariant c.offer_behind-offer.ensures c.in_ok-push_within.ensures

-- All words are passed.
pub returns : goal.returns
returns c =
    let count = cycles-count (taking_cycle (server_in c.args.lane.now) c.args.lane.now.cycles)
    c.args.taken.now (length c.args.lane.now.offers.now) c.requires.taken in
    let all : c.loop-place.place ≡ length c.args.lane.now.offers.now =
    omega (arith, count, c.loop-place-test.false, c.loop-place.auto.place-end) in
    c.loop-place.invariant
    ∙ ap (λ n. filter (λ (one : Offer). nat_lt one.cycle c.args.lane.now.cycles)
    (map (offer_behind c.args.lane.now.receivers.now c.args.lane.now.cycles
    (leg_in c.args.lane.now) c.args.lane.now.offers.now) (range_with_len 0 n))) all
