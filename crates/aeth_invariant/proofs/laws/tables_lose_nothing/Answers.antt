use Rattle.std.proofs.Common.{◌≡◌, suc, ◌+◌, arith, subst}
use Rattle.aeth_invariant.{specs.Tables.AreEntries, proofs.Tables.passed-once}
use Rattle.aeth_invariant.proofs.laws.tables_lose_nothing.Goals as goal

-- A flit that is held goes on by the wire of its session's path.
pub returns : goal.returns
returns c sessions ok some t held exact from entries =
    let next : t + 1 ≡ suc t = omega arith in
    passed-once sessions ok some t held exact from
    (subst (λ n. AreEntries sessions n from) next entries)
