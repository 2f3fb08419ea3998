use Rattle.aeth_ni.proofs.EntryLemmas.{Holds-other, Holds-written}
use Rattle.aeth_ni.proofs.laws.writes_change_entries.Goals as goal

-- The interface that a write is for.
pub returns-clause-own : goal.returns-clause-own
returns-clause-own c = Holds-written

-- Another.
pub returns-clause-other : goal.returns-clause-other
returns-clause-other c = Holds-other
