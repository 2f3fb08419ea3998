use Rattle.aeth_alloc.proofs.EarlierLemmas.{trials-go-on}
use Rattle.aeth_alloc.proofs.TrialLemmas.{trials-fit, trials-lack, trials-tell}
use Rattle.aeth_alloc.proofs.laws.trials.Goals as goal

-- They tell of the refusals.
pub returns-clause-refused : goal.returns-clause-refused
returns-clause-refused c = trials-tell

-- They are on the chip.
pub returns-clause-fit : goal.returns-clause-fit
returns-clause-fit c = trials-fit

-- They have no candidate.
pub returns-clause-none : goal.returns-clause-none
returns-clause-none c = trials-lack

-- They go on from each other.
pub returns-clause-go_on : goal.returns-clause-go_on
returns-clause-go_on c design groups =
    trials-go-on design.chip design.app groups design.prices
