use Rattle.std.proofs.Common.{◌+◌, sym, arith}
use Rattle.aeth_server.specs.WordCycles.{crediting_cycle, sending_cycle, taking_cycle}
use Rattle.aeth_server.proofs.{PrivateServerLemmas.counts-none, WordCycles.word-landed}
use Rattle.aeth_chain.specs.Lanes.{server_in}
use Rattle.aeth_chain.proofs.LaneLemmas.{lane-opens, map-more, ord_min-nat}
use Rattle.aeth_chain.proofs.ReceiverLemmas.{receives-first}
use Rattle.aeth_chain.proofs.lane.word_cycles.Goals as goal

-- No words yet.
pub loop-place-init : goal.loop-place-init
loop-place-init c =
    let server = server_in c.args.lane.now in
    record {
      sent = c.in_ok-with_capacity.ensures.items;
      taken = c.in_ok-with_capacity-2.ensures.items;
      credited = c.in_ok-with_capacity-3.ensures.items;
      receiving = receives-first server c.args.lane.now.cycles
          (lane-opens c.args.lane.now c.requires) c.requires.least (counts-none server).taken;
      known = omega arith;
    }

-- A word lands a path delay after it is sent.
pub received-receiving-requires-clause-landed : goal.received-receiving-requires-clause-landed
received-receiving-requires-clause-landed c =
    let lands = word-landed (server_in c.args.lane.now) c.args.lane.now.cycles
    (lane-opens c.args.lane.now c.requires) (c.loop-place.place + 1) (omega arith) in
    let low = ord_min-nat (c.sending-sent.result + c.args.lane.now.shape.links)
    c.args.lane.now.cycles in
    omega (arith, c.min-landed.ensures, low, lands, c.sending-sent.ensures.gives)

-- One more word.
pub loop-place-preserved : goal.loop-place-preserved
loop-place-preserved c =
    let server = server_in c.args.lane.now in
    let cycles = c.args.lane.now.cycles in
    let before = c.loop-place.invariant in
    let receiving = c.received-receiving.ensures in
    record {
      sent = map-more (λ k. sending_cycle server cycles (k + 1)) _ _ c.loop-place.place
          c.sending-sent.result before.sent c.sending-sent.ensures.gives c.in_ok-push.ensures.items;
      taken = map-more (λ k. taking_cycle server cycles (k + 1)) _ _ c.loop-place.place
          c.received-receiving.result.cycle before.taken (sym receiving.gives.last)
          c.in_ok-push-2.ensures.items;
      credited = map-more (λ k. crediting_cycle server cycles (k + 1)) _ _ c.loop-place.place
          c.crediting-credited.result before.credited c.crediting-credited.ensures
          c.in_ok-push-3.ensures.items;
      receiving = receiving.gives;
      known = receiving.known;
    }
