use Rattle.aeth_rtable.proofs.TableLaws.{design_tables}
use Rattle.aeth_rtable.proofs.laws.router_tables.Goals as goal

-- By the laws of hops and of rows.
pub returns : goal.returns
returns c = design_tables
