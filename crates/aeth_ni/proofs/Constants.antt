-- The code's constants are the numbers of an interface.
use Rattle.std.proofs.Common.{◌≡◌, refl}
use Rattle.aeth_ni.specs.Limits as limits
use Rattle.aeth_ni.specs.declared.interface.TheConstants as interface
use Rattle.aeth_ni.specs.declared.queue.TheConstants as queue

record AreTheLimits : Type 0 where
  queues_of_interface : interface.QUEUES_OF_INTERFACE ≡ limits.queues_of_interface
  waiting_words : queue.WAITING_WORDS ≡ limits.waiting_words

constants_are_the_limits : AreTheLimits
constants_are_the_limits = record { queues_of_interface = refl; waiting_words = refl }
