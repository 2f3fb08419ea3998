use Rattle.std.proofs.Common.{◌≡◌, suc, ◌+◌, arith, subst}
use Rattle.aeth_invariant.specs.Tables.{AreEntries}
use Rattle.aeth_invariant.proofs.Tables.{forwards, forwards-none}
use Rattle.aeth_invariant.proofs.laws.tables_forward.Goals as goal

-- Behind a cycle the flits that are held are those of the sessions.
pub returns-clause-after : goal.returns-clause-after
returns-clause-after c sessions ok some t held exact from entries =
    let next : t + 1 ≡ suc t = omega arith in
    forwards sessions ok some t held exact from
    (subst (λ n. AreEntries sessions n from) next entries)

-- Before the first cycle none is held.
pub returns-clause-first : goal.returns-clause-first
returns-clause-first c = forwards-none
