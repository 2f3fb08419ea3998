use Rattle.std.proofs.Common.{◌≡◌, suc, ◌+◌, arith, subst}
use Rattle.aeth_invariant.{specs.Standing.Stands, proofs.Whole.step}
use Rattle.aeth_invariant.proofs.laws.cycles_keep_standing.Goals as goal

-- The five parts of the cycle, one after the other.
pub returns-clause-wires : goal.returns-clause-wires
returns-clause-wires c sessions ok t old new wires at cycle =
    (step sessions ok t old new wires at cycle).exact

pub returns-clause-components : goal.returns-clause-components
returns-clause-components c sessions ok t old new wires at cycle =
    let next : suc t ≡ t + 1 = omega arith in
    subst (λ n. Stands sessions n n new) next (step sessions ok t old new wires at cycle).stands
