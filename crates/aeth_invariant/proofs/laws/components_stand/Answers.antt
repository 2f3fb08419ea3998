use Rattle.aeth_invariant.proofs.Whole.{always, exact}
use Rattle.aeth_invariant.proofs.laws.components_stand.Goals as goal

-- By induction on the cycle.
pub returns-clause-components : goal.returns-clause-components
returns-clause-components c = always

pub returns-clause-wires : goal.returns-clause-wires
returns-clause-wires c = exact
