use Rattle.std.proofs.Common.{◌≡◌, ◌∙◌, ap, arith, subst, sym}
use Rattle.aeth_running.specs.{Network.NetworkState, Quiet.IsNextBusy}
use Rattle.aeth_network.specs.Cursors.{AreCursors, routing_with, stimuli_with}
use Rattle.aeth_network.proofs.{NextBusy.next-busy-is, NextBusy.now-busy, Playing.cycles-of}
use Rattle.aeth_network.proofs.{SeenNetworks.seen, WindowLemmas.given-ascend}
use Rattle.aeth_network.proofs.network.RoutedNetwork.next_unstill.Goals as goal

-- No more cycles are done than there are.
pub next-next-requires-clause-to : goal.next-next-requires-clause-to
next-next-requires-clause-to c =
    let has = c.self.invariant.2 in
    let cycles = cycles-of has.inputs (seen c.self.inside) has.of in
    let within = has.of.within in
    let time_is = ap (λ (one : NetworkState). one.time) c.self.view_is in
    let end_is = ap (λ (one : NetworkState). one.log.cycles) c.self.view_is in
    omega arith

-- The windows come in order, and the places are those of the cycle.
pub next-next-requires-clause-windows : goal.next-next-requires-clause-windows
next-next-requires-clause-windows c =
    given-ascend c.self.invariant.2.inputs (seen c.self.inside) c.self.invariant.2.of

pub next-next-requires-clause-from : goal.next-next-requires-clause-from
next-next-requires-clause-from c =
    let inside = c.self.inside in
    let time : inside.time ≡ c.time-time.result =
    ap (λ (one : NetworkState). one.time) c.self.view_is ∙ sym c.time-time.ensures in
    subst (λ n. AreCursors inside.cursors n (stimuli_with inside.given) (routing_with inside.given))
    time c.self.invariant.1

-- An event is done in the cycle that comes.
pub returns-then-has_event : goal.returns-then-has_event
returns-then-has_event c =
    let has = c.self.invariant.2 in
    let all = seen c.self.inside in
    let time : c.time-time.result ≡ all.time =
    c.time-time.ensures ∙ sym (ap (λ (one : NetworkState). one.time) c.self.view_is) in
    rw c.time-time.ensures (subst (λ (net : NetworkState). IsNextBusy net net.time) c.self.view_is
    (now-busy has.inputs all
    (c.quiet_cycles_are_still.ensures has.inputs has.of.accepted all.routing has.of.routed) has.of
    (λ still. (rw time at c.has_event.ensures) c.if-has_event.true still.eventless)))

-- A wire has a flit.
pub returns-else-are_wires_empty : goal.returns-else-are_wires_empty
returns-else-are_wires_empty c =
    let has = c.self.invariant.2 in
    let all = seen c.self.inside in
    rw c.time-time.ensures (subst (λ (net : NetworkState). IsNextBusy net net.time) c.self.view_is
    (now-busy has.inputs all
    (c.quiet_cycles_are_still.ensures has.inputs has.of.accepted all.routing has.of.routed) has.of
    (λ still. let yes = c.are_wires_empty.ensures.1 still.empty in
    absurd (cc (sym yes ∙ c.if-are_wires_empty.false)))))

-- Or the first of what is given, of what components send, and of what receivers take.
pub returns-then-are_wires_empty : goal.returns-then-are_wires_empty
returns-then-are_wires_empty c =
    let has = c.self.invariant.2 in
    let all = seen c.self.inside in
    let time : c.time-time.result ≡ all.time =
    c.time-time.ensures ∙ sym (ap (λ (one : NetworkState). one.time) c.self.view_is) in
    let cycles : c.cycles.result ≡ all.log.cycles =
    c.cycles.ensures ∙ sym (ap (λ (one : NetworkState). one.log.cycles) c.self.view_is) in
    subst (λ (net : NetworkState). IsNextBusy net c.next_taking.result) c.self.view_is
    (next-busy-is has.inputs all
    (c.quiet_cycles_are_still.ensures has.inputs has.of.accepted all.routing has.of.routed) has.of _
    c.self.invariant.0 (c.are_wires_empty.ensures.0 c.if-are_wires_empty.true) c.next-next.result
    c.next_own-next.result c.next_taking.result (rw (time, cycles) at c.next-next.ensures)
    (rw time at c.next_own-next.ensures)
    (rw (c.deref.ensures.value, time, c.self.invariant.1.take_is) at c.next_taking.ensures))
