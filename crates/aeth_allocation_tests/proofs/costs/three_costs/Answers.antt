use Rattle.std.proofs.Common.{arith}
use Rattle.aeth_allocation_tests.proofs.costs.three_costs.Goals as goal

-- Each answer of the function is from 1 to 1,000, and it is one.
pub new-cost-requires-clause-answers : goal.new-cost-requires-clause-answers
new-cost-requires-clause-answers c = λ d u some delay used. record {
  answer = _;
  only = λ other gives. gives;
  some = omega arith;
  most = omega arith;
}
