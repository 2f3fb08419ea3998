use Rattle.std.proofs.Common.{List, arith, sym, ap, length, ltb-false}
use Rattle.aeth_group.proofs.RowLemmas.{uses_of-beyond}
use Rattle.aeth_group.proofs.groups.Groups.uses_of.Goals as goal

-- Where there is no row there is no group.
pub returns-in-None : goal.returns-in-None
returns-in-None c =
    let past = ltb-false c.args.g.0 (length c.deref.result.now) (sym c.in-None.ensures.lookup.0) in
    let size = c.self.invariant.1.size in
    rw (← c.self.view_is) (uses_of-beyond _ c.args.g.0 c.self.invariant.0
    (omega (arith, past, size, ap (λ (rows : List _). length rows) c.deref.ensures.value)))
