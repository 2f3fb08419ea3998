use Rattle.aeth_explain.proofs.VerdictLemmas.{verdict-complete}
use Rattle.aeth_explain.proofs.laws.verdicts.Goals as goal

-- The verdict says so exactly of certificates.
pub returns : goal.returns
returns c = verdict-complete
