use Rattle.std.proofs.Common.{◌≡◌, drop}
use Rattle.aeth_explain.specs.Order.{dictionary}
use Rattle.aeth_explain.proofs.order.dictionary.Given as goal

-- The links that are left decide.
abbrev pub invariant-loop-i : goal.invariant-loop-i
invariant-loop-i l = dictionary (drop l.i l.path) (drop l.i l.other) ≡ dictionary l.path l.other
