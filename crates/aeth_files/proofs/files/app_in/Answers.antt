use Rattle.std.proofs.Common.{codes}
use Rattle.aeth_app.specs.{App.IsAppOf, AppFile.app_of, Fault.rule_of}
use Rattle.aeth_answers.proofs.FileLemmas.{HandsOn-keeps, Judges-told}
use Rattle.aeth_files.proofs.files.app_in.Goals as goal

-- The bytes are judged.
pub returns-clause-judges : goal.returns-clause-judges
returns-clause-judges c =
    λ now. Judges-told now (codes "app") rule_of (λ app. app)
    (app_of c.args.chip.now c.args.bytes.now) c.read_app.result c.judged.result c.read_app.ensures.gives
    c.judged.ensures

-- What is handed on is what was read.
pub returns-clause-app : goal.returns-clause-app
returns-clause-app c =
    HandsOn-keeps rule_of (codes "app") (IsAppOf c.args.chip.now) c.read_app.result c.judged.result
    c.read_app.ensures.chip c.judged.ensures
