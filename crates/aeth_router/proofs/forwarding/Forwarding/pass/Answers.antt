use Rattle.std.proofs.Common.{◌∙◌, ap, sym, length}
use Rattle.aeth_router.specs.{Forwarding.sent_by, Forwarding.wire_for, Ports.hopped}
use Rattle.aeth_router.specs.{declared.forwarding.Forwarding.Forwarding}
use Rattle.aeth_router.proofs.ForwardingLemmas.{is_wire, sent_by-port}
use Rattle.aeth_router.proofs.forwarding.Forwarding.pass.Goals as goal

-- The wire is one to which the flit is sent.
pub add-requires : goal.add-requires
add-requires c =
    is_wire (λ out. sent_by c.args.self.now out c.args.flit) c.in-Some.wire.0 (length c.args.onward.now)
    (hopped c.args.flit)
    (λ out. ap (λ (forwarding : Forwarding). sent_by forwarding out c.args.flit) c.in-ByPort.is
    ∙ sent_by-port c.in-ByPort.wires c.in-Some.wire c.args.flit
    (ap (wire_for c.in-ByPort.wires) (sym c.hop-port.ensures.port) ∙ sym c.wire_of.ensures ∙ c.in-Some.is)
    out)
    c.requires

pub add-requires-in-Straight : goal.add-requires-in-Straight
add-requires-in-Straight c =
    is_wire (λ out. sent_by c.args.self.now out c.args.flit) c.in-Straight.wire.0
    (length c.args.onward.now) c.args.flit
    (λ out. ap (λ (forwarding : Forwarding). sent_by forwarding out c.args.flit) c.in-Straight.is)
    c.requires
