use Rattle.std.proofs.Common.{length, sym}
use Rattle.aeth_clocked.proofs.MarkedWiresLemmas.{as_many_kept, marked_wires-none}
use Rattle.aeth_clocked.proofs.wires.Wires.clear.Goals as goal

-- No link is marked any more.
pub returns : goal.returns
returns c =
    let flits = c.self.inside.flits.items in
    marked_wires-none c.clear.new.self flits (length c.args.self.now)
    (sym (as_many_kept c.self.inside.used flits c.args.self.now c.self.view_is))
    c.clear.ensures.unmarked
