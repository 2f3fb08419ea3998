-- The code's constants are the numbers of the rules.
use Rattle.std.proofs.Common.{◌≡◌, refl}
use Rattle.aeth_demo.specs.Limits as limits
use Rattle.aeth_demo.specs.declared.texts.TheConstants as constants

record AreTheRules : Type 0 where
  max_demo_number : constants.MAX_DEMO_NUMBER ≡ limits.max_demo_number
  demo_cycles : constants.DEMO_CYCLES ≡ limits.demo_cycles

constants_are_the_rules : AreTheRules
constants_are_the_rules = record { max_demo_number = refl; demo_cycles = refl }
