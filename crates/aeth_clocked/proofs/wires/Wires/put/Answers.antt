use Rattle.std.proofs.Common.{◌<◌, ◌∙◌, List, Option, ap, arith, length, length-set, refl, sym, set}
use Rattle.aeth_base.proofs.Lists.{slice_get-slice_set_same, slice_get-slice_set_other}
use Rattle.aeth_clocked.specs.declared.flit.Flit.{Flit}
use Rattle.aeth_clocked.proofs.MarkedWiresLemmas.{as_many_kept, marked_flit-none, marked_flit-some}
use Rattle.aeth_clocked.proofs.MarkedWiresLemmas.{marked_wires-set}
use Rattle.aeth_clocked.proofs.wires.Wires.put.Goals as goal

-- A flit stands at the link's place, and the link is marked.
pub returns-in-Some : goal.returns-in-Some
returns-in-Some c =
    let marks = c.self.inside.used in
    let flits = c.self.inside.flits.items in
    let link = c.args.link.0 in
    let flit = c.in-Some.flit in
    let written = set flits link flit in
    let size = as_many_kept marks flits c.args.self.now c.self.view_is in
    let within : link < length flits = omega arith in
    marked_wires-set marks c.mark.new.self flits written link c.args.flit within
    (length-set flits link flit)
    (marked_flit-some c.mark.new.self written link c.mark.ensures.here
    ∙ slice_get-slice_set_same flits link flit within ∙ sym c.in-Some.is)
    c.mark.ensures.away (λ other apart. slice_get-slice_set_other flits link other flit apart)
    ∙ ap (λ (wires : List (Option Flit)). set wires link c.args.flit) c.self.view_is

-- The link isn't marked any more.
pub returns-in-None : goal.returns-in-None
returns-in-None c =
    let marks = c.self.inside.used in
    let flits = c.self.inside.flits.items in
    let link = c.args.link.0 in
    let size = as_many_kept marks flits c.args.self.now c.self.view_is in
    let within : link < length flits = omega arith in
    marked_wires-set marks c.unmark.new.self flits flits link c.args.flit within refl
    (marked_flit-none c.unmark.new.self flits link
    (λ one. omega (arith, c.unmark.ensures.here, one)) ∙ sym c.in-None.is)
    c.unmark.ensures.away (λ other apart. refl)
    ∙ ap (λ (wires : List (Option Flit)). set wires link c.args.flit) c.self.view_is

-- No link past all is marked.
pub invariant_of-self : goal.invariant_of-self
invariant_of-self c =
    let marks = c.self.inside.used in
    let flits = c.self.inside.flits.items in
    let link = c.args.link.0 in
    let size = as_many_kept marks flits c.args.self.now c.self.view_is in
    let within : link < length flits = omega arith in
    let same = length-set flits link c.in-Some.flit in
    record {
      few = omega (arith, same);
      room = omega (arith, same, c.mark.ensures.room);
      past = λ other past.
          c.mark.ensures.away other (λ here. omega (arith, same, past, here))
          ∙ c.self.invariant.past other (omega (arith, same, past));
    }
