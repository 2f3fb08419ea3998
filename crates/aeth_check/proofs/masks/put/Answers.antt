use Rattle.std.proofs.Common.{length, true, ◌≤◌, ◌∙◌, ℕ, List, refl, sym, subst, arith, take_all}
use Rattle.aeth_group.specs.Tables.{Changes}
use Rattle.aeth_group.proofs.TableLemmas.{changes-none, still_table}
use Rattle.aeth_check.proofs.UseLaws.{has_row, hits_those, those-uses_of, those_skip, those_step}
use Rattle.aeth_check.proofs.masks.put.Goals.{then-has_unit, else-has_unit}
use Rattle.aeth_check.proofs.masks.put.Goals as goal

-- Nothing was put in.
pub loop-u-init : goal.loop-u-init
loop-u-init c =
    changes-none c.args.chip.now.slots (length c.args.chip.now.links) _ true c.args.masks.now
    (λ u l s. refl)

-- The use case has a row.
pub put_row-requires-clause-row : goal.put_row-requires-clause-row
put_row-requires-clause-row c =
    omega (
      arith,
      c.requires.rows,
      c.loop-u.invariant.count,
      has_row c.args.groups.now c.args.grant.now.unit _ (length c.args.chip.now.links)
          (sym c.has_unit.ensures ∙ c.if-has_unit.true),
    )

-- What has been put in so far is a table.
pub put_row-requires-clause-table : goal.put_row-requires-clause-table
put_row-requires-clause-table c =
    still_table c.args.chip.now.slots (length c.args.chip.now.links) _ true c.args.masks.now
    c.loop-u.masks c.loop-u.invariant c.requires.table

-- The use case has the slots if it has the unit.
pub loop-u-preserved : goal.loop-u-preserved
loop-u-preserved c =
    let grant = c.args.grant.now in
    elim c.if-has_unit.branch [
      | then-has_unit w ↦ rw w.masks-is
          (those_step c.args.chip.now.slots grant.slots c.args.chip.now.links c.args.groups.now
          grant.unit grant.path c.uses_of-u-items.result.now c.loop-u.u-index true
          c.args.masks.now c.loop-u.masks c.loop-u-test.true c.loop-u.invariant
          w.put_row.new.masks (sym c.has_unit.ensures ∙ w.if-has_unit.true) w.put_row.ensures)
      | else-has_unit w ↦ rw w.masks-is
          (those_skip c.args.chip.now.slots grant.slots c.args.chip.now.links c.args.groups.now
          grant.unit grant.path c.uses_of-u-items.result.now c.loop-u.u-index true
          c.args.masks.now c.loop-u.masks c.loop-u-test.true c.loop-u.invariant
          (sym c.has_unit.ensures ∙ w.if-has_unit.false))
    ]

-- All use cases of the group have them.
pub returns : goal.returns
returns c =
    let grant = c.args.grant.now in
    let uses = c.uses_of-u-items.result.now in
    let end : length uses ≤ c.loop-u.u-index = omega (arith, c.loop-u-test.false) in
    those-uses_of c.args.chip.now.slots grant.slots c.args.chip.now.links c.args.groups.now
    grant.unit grant.path true c.args.masks.now c.loop-u.masks
    (subst (λ (us : List ℕ). Changes c.args.chip.now.slots (length c.args.chip.now.links)
    (hits_those grant.slots c.args.chip.now.links c.args.groups.now grant.unit grant.path us) true
    c.args.masks.now c.loop-u.masks)
    (take_all c.loop-u.u-index uses end ∙ c.uses_of-u-items.ensures) c.loop-u.invariant)
