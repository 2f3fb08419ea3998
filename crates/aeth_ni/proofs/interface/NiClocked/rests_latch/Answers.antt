use Rattle.std.proofs.Common.{ap, length}
use Rattle.aeth_clocked.proofs.WiresLemmas.{AreLinks-one}
use Rattle.aeth_ni.specs.Interface.{InterfaceState}
use Rattle.aeth_ni.proofs.interface.NiClocked.rests_latch.Goals as goal

-- The entering link is a link.
pub is_empty-requires : goal.is_empty-requires
is_empty-requires c =
    rw (ap (λ (ni : InterfaceState). ni.entering.0) c.self.view_is)
    (AreLinks-one c.args.self.now.entering.0 (length c.args.wires.now) c.requires)
