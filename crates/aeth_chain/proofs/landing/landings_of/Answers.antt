use Rattle.std.proofs.Common.{◌≡◌, ◌∙◌, ap, length, map, arith}
use Rattle.std.proofs.lemmas.List.FromFn.{length-map-range_with_len}
use Rattle.std.specs.List.{range_with_len}
use Rattle.aeth_server.specs.{PrivateServer.landed, WordCycles.sending_cycle}
use Rattle.aeth_chain.specs.{ChainRun.landing_on, Lanes.legs_in, Lanes.run_in, Lanes.server_in}
use Rattle.aeth_chain.proofs.LandedLemmas.{landed-all, landed-at, landed-more, landed-none}
use Rattle.aeth_chain.proofs.LaneLemmas.{cycles-at, cycles-count, map-more, sending-most}
use Rattle.aeth_chain.proofs.landing.landings_of.Goals as goal

-- The word at a place is one of the lane, which is sent in this cycle.
pub landing-requires-clause-place : goal.landing-requires-clause-place
landing-requires-clause-place c =
    let count = cycles-count (sending_cycle (server_in c.args.lane.now) c.args.lane.now.cycles)
    c.args.sent.now (length c.args.lane.now.offers.now) c.requires.sent in
    omega (arith, count, c.loop-place-test.true)

pub finish_behind-finish-requires-clause-place : goal.finish_behind-finish-requires-clause-place
finish_behind-finish-requires-clause-place c =
    let count = cycles-count (sending_cycle (server_in c.args.lane.now) c.args.lane.now.cycles)
    c.args.sent.now (length c.args.lane.now.offers.now) c.requires.sent in
    omega (arith, count, c.loop-place-test.true, c.requires.shorter)

pub overflow_add-landed : goal.overflow_add-landed
overflow_add-landed c =
    let count = cycles-count (sending_cycle (server_in c.args.lane.now) c.args.lane.now.cycles)
    c.args.sent.now (length c.args.lane.now.offers.now) c.requires.sent in
    let at = cycles-at (sending_cycle (server_in c.args.lane.now) c.args.lane.now.cycles)
    c.args.sent.now (length c.args.lane.now.offers.now) c.requires.sent c.loop-place.place
    (omega (arith, count, c.loop-place-test.true)) in
    let low = sending-most c.args.lane.now c.requires.lane c.loop-place.place in
    omega (arith, at, low, c.requires.lane.most, c.requires.lane.shape.most_links)

pub landing-requires-clause-landed : goal.landing-requires-clause-landed
landing-requires-clause-landed c =
    let count = cycles-count (sending_cycle (server_in c.args.lane.now) c.args.lane.now.cycles)
    c.args.sent.now (length c.args.lane.now.offers.now) c.requires.sent in
    let at = cycles-at (sending_cycle (server_in c.args.lane.now) c.args.lane.now.cycles)
    c.args.sent.now (length c.args.lane.now.offers.now) c.requires.sent c.loop-place.place
    (omega (arith, count, c.loop-place-test.true)) in
    landed-at c.args.lane.now c.requires.lane c.loop-place.place _ at c.if-landed-lane.false

-- One more landing.
pub loop-place-preserved : goal.loop-place-preserved
loop-place-preserved c =
    let count = cycles-count (sending_cycle (server_in c.args.lane.now) c.args.lane.now.cycles)
    c.args.sent.now (length c.args.lane.now.offers.now) c.requires.sent in
    let at = cycles-at (sending_cycle (server_in c.args.lane.now) c.args.lane.now.cycles)
    c.args.sent.now (length c.args.lane.now.offers.now) c.requires.sent c.loop-place.place
    (omega (arith, count, c.loop-place-test.true)) in
    let lands = landed-at c.args.lane.now c.requires.lane c.loop-place.place _ at
    c.if-landed-lane.false in
    record {
      rows = map-more (landing_on c.args.lane.now.cycles (legs_in c.args.running.now)
          c.args.running.now.first.now (run_in c.args.lane.now)) _ _ c.loop-place.place
          c.landing.result c.loop-place.invariant.rows c.landing.ensures c.in_ok-push.ensures.items;
      finish = c.finish_behind-finish.ensures;
      within = landed-more c.args.lane.now c.requires.lane c.loop-place.place
          (omega (arith, lands, c.if-landed-lane.false));
    }

-- The word at this place doesn't land in the run.
pub returns-then-landed-lane-clause-gives : goal.returns-then-landed-lane-clause-gives
returns-then-landed-lane-clause-gives c =
    let count = cycles-count (sending_cycle (server_in c.args.lane.now) c.args.lane.now.cycles)
    c.args.sent.now (length c.args.lane.now.offers.now) c.requires.sent in
    let at = cycles-at (sending_cycle (server_in c.args.lane.now) c.args.lane.now.cycles)
    c.args.sent.now (length c.args.lane.now.offers.now) c.requires.sent c.loop-place.place
    (omega (arith, count, c.loop-place-test.true)) in
    let none = landed-none c.args.lane.now c.requires.lane c.loop-place.place _ at
    c.if-landed-lane.true in
    let all : c.loop-place.place ≡ landed (server_in c.args.lane.now) c.args.lane.now.cycles =
    omega (arith, none, c.loop-place.invariant.within) in
    c.loop-place.invariant.rows
    ∙ ap (λ n. map (landing_on c.args.lane.now.cycles (legs_in c.args.running.now)
    c.args.running.now.first.now (run_in c.args.lane.now)) (range_with_len 0 n)) all

pub returns-then-landed-lane-clause-few : goal.returns-then-landed-lane-clause-few
returns-then-landed-lane-clause-few c =
    let size = ap length c.loop-place.invariant.rows
    ∙ length-map-range_with_len (landing_on c.args.lane.now.cycles (legs_in c.args.running.now)
    c.args.running.now.first.now (run_in c.args.lane.now)) 0 c.loop-place.place in
    let all = landed-all c.args.lane.now c.requires.lane in
    omega (arith, size, all, c.loop-place.invariant.within, c.requires.shorter)

-- All words land.
pub returns-clause-gives : goal.returns-clause-gives
returns-clause-gives c =
    let count = cycles-count (sending_cycle (server_in c.args.lane.now) c.args.lane.now.cycles)
    c.args.sent.now (length c.args.lane.now.offers.now) c.requires.sent in
    let few = landed-all c.args.lane.now c.requires.lane in
    let all : c.loop-place.place ≡ landed (server_in c.args.lane.now) c.args.lane.now.cycles =
    omega (arith, count, few, c.loop-place.invariant.within, c.loop-place-test.false) in
    c.loop-place.invariant.rows
    ∙ ap (λ n. map (landing_on c.args.lane.now.cycles (legs_in c.args.running.now)
    c.args.running.now.first.now (run_in c.args.lane.now)) (range_with_len 0 n)) all

pub returns-clause-few : goal.returns-clause-few
returns-clause-few c =
    let size = ap length c.loop-place.invariant.rows
    ∙ length-map-range_with_len (landing_on c.args.lane.now.cycles (legs_in c.args.running.now)
    c.args.running.now.first.now (run_in c.args.lane.now)) 0 c.loop-place.place in
    let all = landed-all c.args.lane.now c.requires.lane in
    omega (arith, size, all, c.loop-place.invariant.within, c.requires.shorter)
