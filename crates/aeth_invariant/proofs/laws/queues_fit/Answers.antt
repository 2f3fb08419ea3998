use Rattle.std.proofs.Common.{◌≡◌, suc, ◌+◌, arith, subst}
use Rattle.aeth_invariant.{specs.RoutedSessions.Owns, proofs.Whole.step, proofs.Whole.within-buffer}
use Rattle.aeth_invariant.proofs.laws.queues_fit.Goals as goal

-- Words are sent for credits alone.
pub returns-clause-buffer : goal.returns-clause-buffer
returns-clause-buffer c = within-buffer

pub returns-clause-whole : goal.returns-clause-whole
returns-clause-whole c sessions ok t old new wires at cycle number known own =
    let next : t + 1 ≡ suc t = omega arith in
    (step sessions ok t old new wires at cycle).whole number known
    (subst (λ n. Owns sessions number n) next own)
