use Rattle.std.proofs.Common.{arith}
use Rattle.aeth_allocation_tests.proofs.outcomes.by_delay.Goals as goal

-- Each answer of the function is from 1 to 1,000, and it is one.
pub new-cost-requires-clause-answers : goal.new-cost-requires-clause-answers
new-cost-requires-clause-answers c = λ d u some delay used. record {
  answer = d;
  only = λ other gives. gives;
  some = omega arith;
  most = omega arith;
}
