use Rattle.std.proofs.Common.{arith}
use Rattle.aeth_server.proofs.WordCycles.{word-sent}
use Rattle.aeth_chain.specs.Lanes.{server_in}
use Rattle.aeth_chain.proofs.LaneLemmas.{lane-opens, ord_min-nat}
use Rattle.aeth_chain.proofs.lane.sending.Goals as goal

-- It goes in the first slot from then on.
pub returns-clause-gives : goal.returns-clause-gives
returns-clause-gives c =
    let sent = word-sent (server_in c.args.lane.now) c.args.lane.now.cycles
    (lane-opens c.args.lane.now c.requires.lane) c.args.place c.ready-ready.result
    c.next_slot.result c.ready-ready.ensures.ready c.next_slot.ensures in
    let low = ord_min-nat c.next_slot.result c.args.lane.now.cycles in
    omega (arith, c.min.ensures, low, sent)
