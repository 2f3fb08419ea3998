use Rattle.aeth_components.proofs.PartLemmas.{wirings-switched}
use Rattle.aeth_hardware_tests.proofs.pair.write.Goals as goal

-- Events change no wires.
pub returns : goal.returns
returns c = rw c.prepare.ensures (wirings-switched c.args.events.now c.args.pair.now.parts)
