use Rattle.std.proofs.Common.{subst, sym, All}
use Rattle.aeth_paths.specs.Trials.{IsTrialOf}
use Rattle.aeth_alloc.proofs.TryLemmas.{if-ok}
use Rattle.aeth_alloc.proofs.tries.trials.Goals as goal

-- Those of the tries are on the chip.
pub returns-clause-fit : goal.returns-clause-fit
returns-clause-fit c =
    if-ok c.all_trials.result (λ trials same. subst (All (IsTrialOf c.args.chip.now)) (sym same)
    c.in_ok-tries.ensures.fit) c.all_trials.ensures
