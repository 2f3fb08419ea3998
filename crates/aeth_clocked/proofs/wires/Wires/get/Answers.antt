use Rattle.std.proofs.{Common.◌<◌, Common.arith, Common.length, lemmas.Option.slice_get-get_or}
use Rattle.aeth_clocked.proofs.MarkedWiresLemmas.{as_many_kept, marked_flit-none, marked_flit-some}
use Rattle.aeth_clocked.proofs.MarkedWiresLemmas.{slice_get-marked_wires}
use Rattle.aeth_clocked.proofs.wires.Wires.get.Goals as goal

-- The flit is the one at the link's place.
pub returns-then-has : goal.returns-then-has
returns-then-has c =
    let marks = c.self.inside.used in
    let flits = c.self.inside.flits.items in
    let link = c.args.link.0 in
    let size = as_many_kept marks flits c.args.self.now c.self.view_is in
    let within : link < length flits = omega arith in
    let at = slice_get-marked_wires marks flits link within in
    let flit = marked_flit-some marks flits link (c.has.ensures.0 c.if-has.true) in
    let read = slice_get-get_or flits link c.index.result.now within in
    cc

-- A link that isn't marked has none.
pub returns-else-has : goal.returns-else-has
returns-else-has c =
    let marks = c.self.inside.used in
    let flits = c.self.inside.flits.items in
    let link = c.args.link.0 in
    let size = as_many_kept marks flits c.args.self.now c.self.view_is in
    let within : link < length flits = omega arith in
    let at = slice_get-marked_wires marks flits link within in
    let flit = marked_flit-none marks flits link (λ one. cc (c.has.ensures.1 one)) in
    cc
