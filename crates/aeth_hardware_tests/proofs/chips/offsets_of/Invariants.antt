use Rattle.std.proofs.Common.{◌<◌, All, length}
use Rattle.aeth_hardware_tests.proofs.chips.offsets_of.Given as goal

-- The links so far are the chip's.
abbrev pub invariant-loop-link : goal.invariant-loop-link
invariant-loop-link l = All (λ link. link.0 < length l.chip.links) l.path
