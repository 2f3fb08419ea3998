use Rattle.aeth_command_laws.proofs.ToldLemmas.{inputs_kept}
use Rattle.aeth_command_laws.proofs.laws.traced_runs.Goals as goal

-- A job that is done stands on accepted inputs that the files told.
pub returns : goal.returns
returns c = λ content files cycles next asked few is done.
    inputs_kept (record { chip = c.files.ensures; app = c.files-2.ensures }) (record {
      accepted = c.verdicts.ensures;
      words = c.files-3.ensures.words;
      receivers = c.files-3.ensures.receivers;
      switches = c.files-3.ensures.switches;
    })
    content asked done files cycles few next is
