use Rattle.aeth_components.proofs.laws.events_change_their_own.Goals as goal
use Rattle.aeth_components.proofs.SlotLemmas.{WritesAlone-holds}
use Rattle.aeth_components.proofs.SwitchingLemmas.{SwitchesAlone-holds}

-- Each its own queue.
pub returns-clause-queues : goal.returns-clause-queues
returns-clause-queues c = λ events parts. SwitchesAlone-holds events parts

-- Each its own slot.
pub returns-clause-slots : goal.returns-clause-slots
returns-clause-slots c = λ events parts. WritesAlone-holds events parts
