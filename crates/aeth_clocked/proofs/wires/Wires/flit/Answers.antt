use Rattle.std.proofs.Common.{IsSome, arith, subst, sym}
use Rattle.std.proofs.lemmas.Option.{slice_get-get_or}
use Rattle.aeth_clocked.specs.Wires.{flit_on}
use Rattle.aeth_clocked.proofs.MarkedWiresLemmas.{flit-there, flit-within}
use Rattle.aeth_clocked.proofs.wires.Wires.flit.Goals as goal

-- A link with a flit is one of the links, of which there are few.
pub overflow_cast-link : goal.overflow_cast-link
overflow_cast-link c =
    let within = flit-within c.self.inside.used c.self.inside.flits.items c.args.link.0
    (rw c.self.view_is c.requires) in
    omega (arith, within, c.self.invariant.few)

pub index-requires : goal.index-requires
index-requires c =
    let within = flit-within c.self.inside.used c.self.inside.flits.items c.args.link.0
    (rw c.self.view_is c.requires) in
    omega (arith, within)

-- The flit is the one at its place.
pub returns : goal.returns
returns c =
    let marks = c.self.inside.used in
    let flits = c.self.inside.flits.items in
    let link = c.args.link.0 in
    let some = subst (λ wires. IsSome (flit_on wires link)) (sym c.self.view_is) c.requires in
    let there = flit-there marks flits link some c.self.invariant in
    let read = slice_get-get_or flits link c.index.result.now (flit-within marks flits link some) in
    cc
