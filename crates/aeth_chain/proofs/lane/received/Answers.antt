use Rattle.std.proofs.Common.{◌≡◌, ◌+◌, subst, arith}
use Rattle.aeth_server.specs.PrivateServer.{pull_at as server_pull}
use Rattle.aeth_trace.specs.{Receivers.pulls_on, declared.receivers.PullRow.PullRow}
use Rattle.aeth_trace.proofs.OrderLemmas.{until_later}
use Rattle.aeth_chain.specs.Lanes.{server_in}
use Rattle.aeth_chain.proofs.LaneLemmas.{lane-opens, lane-pull}
use Rattle.aeth_chain.proofs.ReceiverLemmas.{IsWaiting, receives-in, waits-new, waits-old, waits-on}
use Rattle.aeth_chain.proofs.lane.received.Goals.{then-landed-cycle, else-landed-cycle}
use Rattle.aeth_chain.proofs.lane.received.Goals as goal

-- It lands behind the cycle of the last word, or has landed by it.
pub wait-init : goal.wait-init
wait-init c =
    let lane = c.args.lane.now in
    let opens = lane-opens c.args.lane.now c.requires.lane in
    let rows = pulls_on c.args.lane.now.receivers.now c.args.lane.now.item.channel in
    elim c.if-landed-cycle.branch [
      | then-landed-cycle w ↦
          let later = until_later (λ (row : PullRow). row.cycle) c.args.before.cycle
          c.args.landed rows (omega (arith, w.if-landed-cycle.true)) in
          let known = c.requires.known in
          rw (w.cycle-is, w.had-is) (record {
            waiting = waits-new (server_in c.args.lane.now) c.args.lane.now.cycles opens
                c.requires.lane.least c.args.place c.args.before.cycle c.args.before.had
                c.args.landed c.requires.before c.requires.landed w.if-landed-cycle.true;
            known = omega (arith, known, later);
          })
      | else-landed-cycle w ↦
          rw (w.cycle-is, w.had-is) (record {
            waiting = waits-old (server_in c.args.lane.now) c.args.lane.now.cycles opens
                c.requires.lane.least c.args.place c.args.before.cycle c.args.before.had
                c.args.landed c.requires.before c.requires.landed w.if-landed-cycle.false;
            known = c.requires.known;
          })
    ]

-- Enough are taken.
pub returns-then-had-pull-clause-gives : goal.returns-then-had-pull-clause-gives
returns-then-had-pull-clause-gives c =
    let opens = lane-opens c.args.lane.now c.requires.lane in
    let pull = lane-pull c.args.lane.now c.requires.lane c.wait.cycle c.wait-test.true in
    receives-in (server_in c.args.lane.now) c.args.lane.now.cycles opens c.requires.lane.least
    c.args.place c.wait.cycle c.wait.had c.wait.invariant.waiting c.wait-test.true
    (omega (arith, c.if-had-pull.true, pull, c.next_pull-pull.ensures.gives))

-- Too few are.
pub wait-preserved : goal.wait-preserved
wait-preserved c =
    let lane = c.args.lane.now in
    let server = server_in c.args.lane.now in
    let opens = lane-opens c.args.lane.now c.requires.lane in
    let pull = lane-pull c.args.lane.now c.requires.lane c.wait.cycle c.wait-test.true in
    let gives = c.next_pull-pull.ensures.gives in
    let same : server_pull server c.wait.cycle ≡ c.next_pull-pull.result =
    omega (arith, pull, gives) in
    let next = c.next_pulling-cycle.ensures in
    let waits = waits-on server c.args.lane.now.cycles opens c.requires.lane.least c.args.place
    c.wait.cycle c.wait.had c.next_pulling-cycle.result c.wait.invariant.waiting c.wait-test.true
    (omega (arith, c.if-had-pull.false, same)) next.later next.within
    (λ t after before.
    let none = next.idle t after before in
    let here = lane-pull c.args.lane.now c.requires.lane t (omega (arith, before, next.within)) in
    omega (arith, none, here)) in
    let later = until_later (λ (row : PullRow). row.cycle) c.wait.cycle c.next_pulling-cycle.result
    (pulls_on c.args.lane.now.receivers.now c.args.lane.now.item.channel)
    (omega (arith, next.later)) in
    let known = c.next_pull-pull.ensures.known in
    record {
      waiting = subst (λ n. IsWaiting server c.args.lane.now.cycles c.args.place
          c.next_pulling-cycle.result (c.wait.had + n)) same waits;
      known = omega (arith, known, later);
    }
