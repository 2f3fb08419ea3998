use Rattle.aeth_invariant.proofs.Listed.{wires-carry}
use Rattle.aeth_invariant.proofs.laws.wires_carry.Goals as goal

-- One session alone has a flit there, at one place.
pub returns : goal.returns
returns c = wires-carry
