use Rattle.std.proofs.Common.{subst, sym, arith}
use Rattle.aeth_server.{specs.SlotCycles.IsNextCycle, proofs.WordCycles.word-credited}
use Rattle.aeth_chain.specs.Lanes.{server_in}
use Rattle.aeth_chain.proofs.LaneLemmas.{lane-opens, ord_min-nat}
use Rattle.aeth_chain.proofs.lane.crediting.Goals as goal

-- It goes in the first opposite slot from then on; both slot sets have one size.
pub returns : goal.returns
returns c =
    let next = subst (λ n. IsNextCycle n c.args.lane.now.shape.back.slots c.credit_ready-ready.result
    c.next_slot.result) (sym c.requires.lane.shape.same_size) c.next_slot.ensures in
    let sent = word-credited (server_in c.args.lane.now) c.args.lane.now.cycles
    (lane-opens c.args.lane.now c.requires.lane) c.args.place c.credit_ready-ready.result
    c.next_slot.result c.credit_ready-ready.ensures.ready next in
    let low = ord_min-nat c.next_slot.result c.args.lane.now.cycles in
    omega (arith, c.min.ensures, low, sent)
