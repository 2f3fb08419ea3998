use Rattle.std.proofs.Common.{◌∙◌, ℕ, ◌++◌, List, ap, codes}
use Rattle.aeth_answers.specs.{Job.Job, Refusal.refused_file, Refusal.value_text}
use Rattle.aeth_answers.specs.{Status.refused_status}
use Rattle.aeth_answers.proofs.answer.Answer.refused_file.Goals as goal

-- The line, its value and its end.
pub returns : goal.returns
returns c =
    let valued = c.in_ok-push_value.ensures
    ∙ ap (λ (text : List ℕ). text ++ value_text c.broken.inside.value) c.in_ok-text.ensures in
    let ended = c.in_ok-push.ensures.items ∙ ap (λ (text : List ℕ). text ++ codes "\n") valued in
    ap (λ (line : List ℕ). let job : Job = record { status = refused_status; text = line } in job)
    ended ∙ ap (refused_file c.args.file.now) c.broken.view_is
