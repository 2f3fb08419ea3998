use Rattle.std.proofs.Common.{arith}
use Rattle.aeth_router.specs.Router.{numbers_of}
use Rattle.aeth_router.proofs.TrafficLemmas.{AreNamed-none, AreNamed-some, Drives-more_sent}
use Rattle.aeth_router.proofs.TrafficLemmas.{Drives-none}
use Rattle.aeth_router.proofs.traffic.send.Goals as goal

-- No flit, and no change.
pub returns-in_default-clause-named : goal.returns-in_default-clause-named
returns-in_default-clause-named c =
    λ before named. rw c.in_default.is (AreNamed-none c.args.named.now before named)

pub returns-in_default-clause-wires : goal.returns-in_default-clause-wires
returns-in_default-clause-wires c =
    λ before first named drives.
    rw c.in_default.is (Drives-none (numbers_of c.args.outgoing.now) before first c.args.wires.now drives)

-- One flit more at its port.
pub returns-clause-named : goal.returns-clause-named
returns-clause-named c =
    let names = c.hop-port.ensures.port in
    λ before named.
    rw c.in-Some.is (AreNamed-some c.args.named.now before c.in-Some.flit c.hop-port.result.0 names
    (omega arith) named)

pub returns-clause-wires : goal.returns-clause-wires
returns-clause-wires c =
    λ before first named drives.
    rw c.in-Some.is (Drives-more_sent c.args.named.now _ (numbers_of c.args.outgoing.now) before
    c.in-Some.flit c.hop-port.result.0 c.hop-port.result.1 c.alone-sent.result first
    c.args.wires.now c.put_at.new.wires c.requires.apart c.requires.links c.hop-port.ensures.port
    c.hop-port.ensures.word c.alone-sent.ensures c.put_at.ensures.put c.put_at.ensures.past named
    drives)
