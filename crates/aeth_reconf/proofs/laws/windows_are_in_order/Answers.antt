use Rattle.aeth_reconf.proofs.Owners.{owned_first}
use Rattle.aeth_reconf.proofs.WindowLemmas.{in_order, slots_in_order}
use Rattle.aeth_reconf.proofs.laws.windows_are_in_order.Goals as goal

-- A channel's writes are within those of its switch.
pub returns-clause-route : goal.returns-clause-route
returns-clause-route c = in_order

pub returns-clause-slots : goal.returns-clause-slots
returns-clause-slots c = slots_in_order

-- And these come once what the switch closes has finished.
pub returns-clause-queue : goal.returns-clause-queue
returns-clause-queue c = owned_first
