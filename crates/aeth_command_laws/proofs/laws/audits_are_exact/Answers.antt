use Rattle.aeth_accepted.specs.Inputs.{run_of}
use Rattle.aeth_command_laws.proofs.AuditedLemmas.{exactly-clean}
use Rattle.aeth_command_laws.proofs.laws.audits_are_exact.Goals as goal

-- The audit of a log is by what its rows break.
pub returns : goal.returns
returns c = exactly-clean (record { chip = c.files.ensures; app = c.files-2.ensures }) (record {
  accepted = c.verdicts.ensures;
  words = c.files-3.ensures.words;
  receivers = c.files-3.ensures.receivers;
  switches = c.files-3.ensures.switches;
})
    (λ inputs accepted log cycles. c.audits.ensures (run_of inputs)
    (c.runs_are_sound.ensures.sound inputs accepted) log cycles)
