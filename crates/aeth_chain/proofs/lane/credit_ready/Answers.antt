use Rattle.std.proofs.Common.{◌∙◌, ◌+◌, ◌*◌, ap, max, arith}
use Rattle.aeth_base.specs.Limits.{credits_per_flit, max_cycles}
use Rattle.aeth_server.specs.WordCycles.{crediting_cycle}
use Rattle.aeth_chain.specs.Lanes.{after, crediting_cycles, server_in}
use Rattle.aeth_chain.proofs.LaneLemmas.{after-most, credit-ready, crediting-most, cycles-count}
use Rattle.aeth_chain.proofs.LaneLemmas.{cycles-room}
use Rattle.aeth_chain.proofs.lane.credit_ready.Goals as goal

-- There are as many cycles as words before, and none is late.
pub after-apart-requires-clause-all : goal.after-apart-requires-clause-all
after-apart-requires-clause-all c =
    cycles-count (crediting_cycle (server_in c.args.lane.now) c.args.lane.now.cycles)
    c.args.credited.now c.args.place c.requires.credited

pub after-apart-requires-clause-room : goal.after-apart-requires-clause-room
after-apart-requires-clause-room c =
    cycles-room (crediting_cycle (server_in c.args.lane.now) c.args.lane.now.cycles)
    c.args.credited.now c.args.place c.args.lane.now.cycles 1 c.requires.credited
    (crediting-most c.args.lane.now c.requires.lane) c.requires.lane.most (omega arith)

-- It is the greater of two cycles.
pub returns-clause-ready : goal.returns-clause-ready
returns-clause-ready c =
    let server = server_in c.args.lane.now in
    let greater = c.max.ensures in
    let apart = c.after-apart.ensures
    ∙ ap (λ xs. after xs c.args.place credits_per_flit 1) c.requires.credited in
    credit-ready server c.args.lane.now.cycles c.args.place c.max.result
    (greater ∙ ap (λ n. max n (c.args.taken + 1)) apart
    ∙ ap (λ n. max (after (crediting_cycles server c.args.lane.now.cycles c.args.place)
    c.args.place credits_per_flit 1) (n + 1)) c.requires.taken)

pub returns-clause-early : goal.returns-clause-early
returns-clause-early c =
    let server = server_in c.args.lane.now in
    let greater = c.max.ensures in
    let apart = after-most c.args.credited.now c.args.place credits_per_flit 1 (2 * max_cycles)
    (cycles-room (crediting_cycle server c.args.lane.now.cycles) c.args.credited.now c.args.place
    c.args.lane.now.cycles 1 c.requires.credited
    (crediting-most c.args.lane.now c.requires.lane) c.requires.lane.most (omega arith)) in
    let one = c.after-apart.ensures in
    let known = rw (← one) at apart in
    let within = c.requires.within in
    let most = c.requires.lane.most in
    omega (arith, greater, known, within, most)
