use Rattle.aeth_components.proofs.ReceiverLemmas.{ReceiversTo}
use Rattle.aeth_chip.specs.Chip.{IsChip}
use Rattle.aeth_components.proofs.ends.receivers_of.Given as goal

-- The wires of the links so far have their receivers.
abbrev pub invariant-loop-link : goal.invariant-loop-link
invariant-loop-link l = (is_chip : IsChip l.chip) → ReceiversTo l.chip is_chip l.receivers.items l.link
