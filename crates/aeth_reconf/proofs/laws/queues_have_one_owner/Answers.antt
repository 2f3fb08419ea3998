use Rattle.aeth_reconf.proofs.Owners.{follows, owned_one}
use Rattle.aeth_reconf.proofs.laws.queues_have_one_owner.Goals as goal

-- A later stay has the queue only once an earlier one has finished.
pub returns-clause-one : goal.returns-clause-one
returns-clause-one c = owned_one

pub returns-clause-follows : goal.returns-clause-follows
returns-clause-follows c = follows
