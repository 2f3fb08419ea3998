use Rattle.aeth_group.proofs.ConflictLemmas.{conflict_from_held, conflict-sym, held_from_conflict}
use Rattle.aeth_group.proofs.laws.conflicts.Goals as goal

-- By the use case that has both.
pub returns-clause-held : goal.returns-clause-held
returns-clause-held c = λ groups links a b.
    (held_from_conflict groups links a b, conflict_from_held groups links a b)

pub returns-clause-mutual : goal.returns-clause-mutual
returns-clause-mutual c = conflict-sym
