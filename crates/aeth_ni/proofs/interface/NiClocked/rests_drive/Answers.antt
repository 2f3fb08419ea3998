use Rattle.std.proofs.Common.{◌≡◌, ◌∙◌, ap, length, None, sym}
use Rattle.aeth_clocked.{specs.Wires.flit_on, proofs.WiresLemmas.AreLinks-one}
use Rattle.aeth_ni.{specs.Interface.InterfaceState, proofs.RestingLemmas.RestsDrive-interface}
use Rattle.aeth_ni.proofs.interface.NiClocked.rests_drive.Goals as goal

-- The leaving link is a link.
pub is_empty-requires : goal.is_empty-requires
is_empty-requires c =
    rw (ap (λ (ni : InterfaceState). ni.leaving.0) c.self.view_is)
    (AreLinks-one c.args.self.now.leaving.0 (length c.args.wires.now) c.requires)

-- Where it is empty, the interface rests just where its slot's queue sends nothing.
pub returns-then-is_empty : goal.returns-then-is_empty
returns-then-is_empty c =
    let ni = c.args.self.now in
    let wires = c.args.wires.now in
    let rests = RestsDrive-interface ni wires c.args.cycle in
    let empty : flit_on wires ni.leaving.0 ≡ None =
    sym (ap (λ (ni : InterfaceState). flit_on wires ni.leaving.0) c.self.view_is)
    ∙ c.is_empty.ensures.0 c.if-is_empty.true in (
      (λ mute. rests.0 (empty, c.is_mute.ensures.0 mute)),
      (λ idle. c.is_mute.ensures.1 (rests.1 idle).1),
    )
