use Rattle.aeth_report.proofs.FlitLemmas.{flit_at-next, header_at-packable}
use Rattle.aeth_report.proofs.laws.flits_hop.Goals as goal

-- Words and credits of a cycle fit in a flit.
pub returns-clause-packable : goal.returns-clause-packable
returns-clause-packable c = header_at-packable

pub returns-clause-next : goal.returns-clause-next
returns-clause-next c = flit_at-next
