use Rattle.std.proofs.Common.{◌∙◌, ◌++◌, [], ◌∷◌, ap, sym}
use Rattle.aeth_base.proofs.Lists.{take-slice_get}
use Rattle.aeth_alloc.proofs.tries.all_trials.Goals as goal

-- One more.
pub loop-i-preserved : goal.loop-i-preserved
loop-i-preserved c =
    c.in_ok-push.ensures.items
    ∙ ap (λ ts. ts ++ c.in_ok-trial.field-0 ∷ []) c.loop-i.invariant
    ∙ sym (take-slice_get c.args.tries.now c.loop-i.i c.in_ok-trial.field-0 c.in_ok-trial.ensures)
