use Rattle.std.proofs.Common.{length, codes}
use Rattle.aeth_audit.specs.{Fault.rule_of, LinkLog.AreLinkRowsOf, LinkLog.link_log_of}
use Rattle.aeth_answers.proofs.FileLemmas.{HandsOn-keeps, Judges-told}
use Rattle.aeth_plan_commands.proofs.audit.log_in.Goals as goal

-- The bytes are judged.
pub returns-clause-judges : goal.returns-clause-judges
returns-clause-judges c =
    λ now. Judges-told now (codes "log") rule_of (λ log. log)
    (link_log_of (length c.args.chip.now.links) c.args.bytes.now) c.read_log.result c.judged.result
    c.read_log.ensures.reads c.judged.ensures

-- What is handed on is what was read.
pub returns-clause-log : goal.returns-clause-log
returns-clause-log c =
    HandsOn-keeps rule_of (codes "log") (AreLinkRowsOf (length c.args.chip.now.links))
    c.read_log.result c.judged.result c.read_log.ensures.rows c.judged.ensures
