use Rattle.std.proofs.{Common.[], Common.take, Common.None, lemmas.List.take_more}
use Rattle.aeth_router.specs.Router.{emitted_on, numbers_of}
use Rattle.aeth_router.proofs.IdleLemmas.{Drives-silent, emitted_on-idle}
use Rattle.aeth_router.proofs.TrafficLemmas.{AreNamed-first}
use Rattle.aeth_router.proofs.traffic.emit.Goals as goal

-- Before the first flit the links are empty.
pub loop-latched-init : goal.loop-latched-init
loop-latched-init c =
    let links = numbers_of c.args.outgoing.now in (
      AreNamed-first,
      Drives-silent links (emitted_on links []) c.args.wires.now c.clear.new.wires
          (emitted_on-idle links 0) c.clear.ensures,
    )

-- The links are links.
pub send-requires-clause-links : goal.send-requires-clause-links
send-requires-clause-links c = rw c.loop-latched.invariant.1.links c.requires.links

-- One flit more is sent.
pub loop-latched-preserved : goal.loop-latched-preserved
loop-latched-preserved c =
    let held = c.args.held.now in
    let i = c.loop-latched.latched-index in
    let before = c.loop-latched.invariant in
    rw (take_more held i None c.loop-latched-test.true) (
      c.send.ensures.named (take i held) before.0,
      c.send.ensures.wires (take i held) c.args.wires.now before.0 before.1,
    )
