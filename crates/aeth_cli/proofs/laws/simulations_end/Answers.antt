use Rattle.aeth_cli.proofs.CommandLemmas.{simulate-cycles, tables-cycles}
use Rattle.aeth_cli.proofs.laws.simulations_end.Goals as goal

-- The words of `simulate` name a number of cycles within the limit.
pub returns-clause-headers : goal.returns-clause-headers
returns-clause-headers c = simulate-cycles c.items_are_chains.ensures.named

-- So do those of `simulate-tables`.
pub returns-clause-tables : goal.returns-clause-tables
returns-clause-tables c = tables-cycles c.items_are_chains.ensures.named
