use Rattle.aeth_group.proofs.ChainLemmas.{in_one_group_from_same_group, same_group-least}
use Rattle.aeth_group.proofs.ChainLemmas.{same_group-refl, same_group-smooth, same_group-sym}
use Rattle.aeth_group.proofs.ChainLemmas.{same_group-trans, same_group_from_in_one_group}
use Rattle.aeth_group.proofs.laws.same_group.Goals as goal

-- By the chain without a use case.
pub returns-clause-itself : goal.returns-clause-itself
returns-clause-itself c = same_group-refl

-- By the same chain backwards.
pub returns-clause-back : goal.returns-clause-back
returns-clause-back c = same_group-sym

-- By one chain after the other.
pub returns-clause-onward : goal.returns-clause-onward
returns-clause-onward c = same_group-trans

-- By the chain of one pair.
pub returns-clause-smooth : goal.returns-clause-smooth
returns-clause-smooth c = same_group-smooth

-- By the pairs of the chain.
pub returns-clause-least : goal.returns-clause-least
returns-clause-least c = λ uses test itself onward smooth u v joined.
    same_group-least uses test itself onward smooth u joined.chain v joined.leads

-- The test finds a shortest chain.
pub returns-clause-tested : goal.returns-clause-tested
returns-clause-tested c = λ uses u v.
    (same_group_from_in_one_group uses u v, in_one_group_from_same_group uses u v)
