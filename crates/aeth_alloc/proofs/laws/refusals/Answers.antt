use Rattle.aeth_alloc.proofs.{LackLemmas.refuses-exactly, RefusalLemmas.refused-last}
use Rattle.aeth_alloc.proofs.laws.refusals.Goals as goal

-- Each refusal of the last state is right.
pub returns-clause-rightly : goal.returns-clause-rightly
returns-clause-rightly c = refused-last

-- There are no others.
pub returns-clause-exactly : goal.returns-clause-exactly
returns-clause-exactly c = refuses-exactly
