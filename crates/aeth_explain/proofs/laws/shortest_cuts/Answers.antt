use Rattle.aeth_explain.proofs.RefusalLemmas.{first-cuts}
use Rattle.aeth_explain.proofs.laws.shortest_cuts.Goals as goal

-- What is listed is exactly what is a shortest cut.
pub returns : goal.returns
returns c = first-cuts
