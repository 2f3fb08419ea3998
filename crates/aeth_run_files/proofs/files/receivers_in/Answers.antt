use Rattle.std.proofs.Common.{codes}
use Rattle.aeth_trace.specs.{Fault.rule_of, Receivers.AreReceiversOf, Receivers.receivers_of}
use Rattle.aeth_answers.proofs.FileLemmas.{HandsOn-keeps, Judges-told}
use Rattle.aeth_run_files.proofs.files.receivers_in.Goals as goal

-- The bytes are judged.
pub returns-clause-judges : goal.returns-clause-judges
returns-clause-judges c =
    λ now. Judges-told now (codes "receivers") rule_of (λ receivers. receivers)
    (receivers_of c.args.app.now c.args.bytes.now) c.read_receivers.result c.judged.result c.read_receivers.ensures.reads
    c.judged.ensures

-- What is handed on is what was read.
pub returns-clause-receivers : goal.returns-clause-receivers
returns-clause-receivers c =
    HandsOn-keeps rule_of (codes "receivers") (AreReceiversOf c.args.app.now) c.read_receivers.result c.judged.result
    c.read_receivers.ensures.receivers c.judged.ensures
