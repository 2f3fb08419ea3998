use Rattle.aeth_command_laws.proofs.ChainedLemmas.{chained}
use Rattle.aeth_command_laws.proofs.laws.chains_meet_bounds.Goals as goal

-- The items are a chain, and a word that is due has landed.
pub returns : goal.returns
returns c = chained (record { chip = c.files.ensures; app = c.files-2.ensures }) (record {
  accepted = c.verdicts.ensures;
  words = c.files-3.ensures.words;
  receivers = c.files-3.ensures.receivers;
  switches = c.files-3.ensures.switches;
}) (record {
  chain = c.items_are_chains.ensures.chain;
  tabled = c.items_are_chains.ensures.tabled;
  lands = c.chains_land.ensures;
})
