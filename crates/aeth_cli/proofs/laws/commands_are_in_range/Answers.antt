use Rattle.aeth_cli.proofs.CommandLemmas.{chain-items, links-cycles}
use Rattle.aeth_cli.proofs.laws.commands_are_in_range.Goals as goal

-- The words of `links` name a number of cycles within its limit.
pub returns-clause-links : goal.returns-clause-links
returns-clause-links c = links-cycles c.items_are_chains.ensures.named

-- Those of `chain` tell items.
pub returns-clause-items : goal.returns-clause-items
returns-clause-items c = chain-items c.items_are_chains.ensures.named
