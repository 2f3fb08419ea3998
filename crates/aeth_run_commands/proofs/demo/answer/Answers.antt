use Rattle.std.proofs.Common.{subst}
use Rattle.aeth_demo.specs.Texts.{TextsData}
use Rattle.aeth_answers.specs.Stop.{Answers}
use Rattle.aeth_run_commands.specs.Demo.{texts_task}
use Rattle.aeth_run_commands.proofs.demo.answer.Goals as goal

-- The texts are those of the number.
pub returns : goal.returns
returns g c =
    λ now. subst (λ (texts : TextsData). Answers now now
    (texts_task g.M.Machine.outcome c.args.n texts) c.texts_answer.result)
    c.in_ok-texts.ensures (c.texts_answer.ensures now)
