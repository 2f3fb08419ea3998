use Rattle.aeth_reconf.proofs.WritePlaces.{of_channel}
use Rattle.aeth_reconf.proofs.WriteTimes.{clear_at, free_at, route_at, slot_at}
use Rattle.aeth_reconf.proofs.laws.writes_come_in_time.Goals as goal

-- Behind the writes of the channels before it.
pub returns-clause-clears : goal.returns-clause-clears
returns-clause-clears c = clear_at

pub returns-clause-frees : goal.returns-clause-frees
returns-clause-frees c = free_at

pub returns-clause-routes : goal.returns-clause-routes
returns-clause-routes c = route_at

pub returns-clause-slots : goal.returns-clause-slots
returns-clause-slots c = slot_at

-- And none is anything else.
pub returns-clause-all : goal.returns-clause-all
returns-clause-all c = of_channel
