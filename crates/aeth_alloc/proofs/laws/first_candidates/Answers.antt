use Rattle.aeth_alloc.proofs.FirstCandidateLemmas.{first_candidate-none, first_candidate-some}
use Rattle.aeth_alloc.proofs.laws.first_candidates.Goals as goal

-- The first candidate by the fact is the one that the function gives.
pub returns-clause-some : goal.returns-clause-some
returns-clause-some c = λ chip book prices ask from to crowded is_chip is_book links.
    first_candidate-some chip book ask from to crowded is_chip is_book links prices

-- Where nothing is a candidate it gives none.
pub returns-clause-none : goal.returns-clause-none
returns-clause-none c = λ chip book prices ask from to crowded is_chip is_book links.
    first_candidate-none chip book ask from to crowded is_chip is_book links prices
