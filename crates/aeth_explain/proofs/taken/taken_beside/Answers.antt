use Rattle.std.proofs.Common.{ap, arith}
use Rattle.aeth_paths.specs.declared.request.Request.{Request}
use Rattle.aeth_explain.proofs.MaskLemmas.{taken-after}
use Rattle.aeth_explain.proofs.taken.taken_beside.Goals as goal

-- With all grants of the try the masks have what is taken.
pub returns : goal.returns
returns c =
    taken-after c.args.chip.now c.args.groups.now c.args.trial.now c.ask.result.unit
    c.grants.result.now c.in_ok-masks.masks.items c.put_rivals.new.masks c.in_ok-masks.masks.len
    (ap (λ (r : Request). r.unit) c.ask.ensures) c.grants.ensures (omega arith)
    c.in_ok-masks.ensures.count c.put_rivals.ensures.count c.put_rivals.ensures.table
