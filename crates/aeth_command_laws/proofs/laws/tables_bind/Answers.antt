use Rattle.aeth_command_laws.proofs.TabledLemmas.{tables-told}
use Rattle.aeth_command_laws.proofs.laws.tables_bind.Goals as goal

-- Each session runs by the row of its channel, and the row is printed.
pub returns : goal.returns
returns c = tables-told (record { chip = c.files.ensures; app = c.files-2.ensures }) (record {
  accepted = c.verdicts.ensures;
  words = c.files-3.ensures.words;
  receivers = c.files-3.ensures.receivers;
  switches = c.files-3.ensures.switches;
}) (record {
  promises = c.promises.ensures;
  rows = c.sessions_run_by_tables.ensures.rows;
  shapes = c.sessions_run_by_tables.ensures.shapes;
  flows = c.sessions_run_by_tables.ensures.flows;
})
