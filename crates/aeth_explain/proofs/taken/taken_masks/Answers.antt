use Rattle.std.proofs.Common.{ap, arith, false, length, subst, sym, ℕ}
use Rattle.aeth_group.specs.Tables.{IsTable}
use Rattle.aeth_paths.specs.declared.request.Request.{Request}
use Rattle.aeth_explain.proofs.MaskLemmas.{empty-table, taken-after}
use Rattle.aeth_explain.proofs.taken.taken_masks.Goals as goal

-- There is a mask for each link.
pub put_rivals-requires-clause-count : goal.put_rivals-requires-clause-count
put_rivals-requires-clause-count c =
    omega (arith, ap length c.deref_mut.ensures.value, c.in_ok-masks.ensures.count)

-- None has any slot.
pub put_rivals-requires-clause-table : goal.put_rivals-requires-clause-table
put_rivals-requires-clause-table c =
    let chip = c.args.chip.now in
    subst (IsTable chip.slots (length chip.links) (λ (u l s : ℕ). false))
    (sym c.deref_mut.ensures.value)
    (empty-table chip.slots (length chip.links) c.in_ok-masks.masks.items c.in_ok-masks.ensures.empty)

-- With all grants of the try the masks have what is taken.
pub returns : goal.returns
returns c =
    taken-after c.args.chip.now c.args.groups.now c.args.trial.now c.ask.result.unit
    c.grants.result.now c.in_ok-masks.masks.items c.put_rivals.new.masks c.in_ok-masks.masks.len
    (ap (λ (r : Request). r.unit) c.ask.ensures) c.grants.ensures (omega arith)
    (omega (arith, c.in_ok-masks.ensures.count)) c.put_rivals.ensures.count c.put_rivals.ensures.table
