use Rattle.std.proofs.Common.{◌∙◌, sym}
use Rattle.aeth_clocked.proofs.MarkedWiresLemmas.{marked_wires-none}
use Rattle.aeth_clocked.proofs.wires.Wires.new.Goals as goal

-- No link is marked.
pub returns : goal.returns
returns c =
    marked_wires-none c.in_ok-used.used c.in_ok-flits.flits.items c.args.links
    (sym c.in_ok-flits.flits.ok.0 ∙ c.in_ok-flits.ensures.len) c.in_ok-used.ensures.unmarked
