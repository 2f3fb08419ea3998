-- The code's constants are the numbers of the rules.
use Rattle.std.proofs.Common.{◌≡◌, refl}
use Rattle.aeth_base.specs.Limits as limits
use Rattle.aeth_base.specs.declared.limits.TheConstants as constants

record AreTheRules : Type 0 where
  max_name_bytes : constants.MAX_NAME_BYTES ≡ limits.max_name_bytes
  min_path_links : constants.MIN_PATH_LINKS ≡ limits.min_path_links
  max_path_links : constants.MAX_PATH_LINKS ≡ limits.max_path_links
  words_per_flit : constants.WORDS_PER_FLIT ≡ limits.words_per_flit
  credits_per_flit : constants.CREDITS_PER_FLIT ≡ limits.credits_per_flit
  max_slots : constants.MAX_SLOTS ≡ limits.max_slots
  max_link_delay : constants.MAX_LINK_DELAY ≡ limits.max_link_delay
  max_path_delay : constants.MAX_PATH_DELAY ≡ limits.max_path_delay
  max_receiver_delay : constants.MAX_RECEIVER_DELAY ≡ limits.max_receiver_delay
  max_queue_words : constants.MAX_QUEUE_WORDS ≡ limits.max_queue_words
  max_cycles : constants.MAX_CYCLES ≡ limits.max_cycles

constants_are_the_rules : AreTheRules
constants_are_the_rules = record {
  max_name_bytes = refl;
  min_path_links = refl;
  max_path_links = refl;
  words_per_flit = refl;
  credits_per_flit = refl;
  max_slots = refl;
  max_link_delay = refl;
  max_path_delay = refl;
  max_receiver_delay = refl;
  max_queue_words = refl;
  max_cycles = refl;
}
