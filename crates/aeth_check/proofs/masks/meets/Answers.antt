use Rattle.std.proofs.Common.{◌&&◌, ◌∙◌, ℕ, Bool, length, sym, ap, arith}
use Rattle.std.proofs.lemmas.Bool.{and_from, and_left, and_right}
use Rattle.std.specs.List.{list_any}
use Rattle.aeth_group.specs.Members.{has_unit}
use Rattle.aeth_group.proofs.RowLemmas.{walk_end, walk_here, walk_on}
use Rattle.aeth_check.{specs.Meetings.meets, proofs.UseLaws.has_row, proofs.UseLaws.touches-uses_of}
use Rattle.aeth_check.{proofs.masks.meets.Goals.else-has_unit-via-else-has_unit}
use Rattle.aeth_check.{proofs.masks.meets.Goals.else-has_unit-via-then-has_unit+else-meets_row}
use Rattle.aeth_check.proofs.masks.meets.Goals as goal

-- All use cases of the group decide it.
pub loop-u-init : goal.loop-u-init
loop-u-init c = λ test table.
    let passes : ℕ → Bool = λ v. has_unit c.args.groups.now c.args.grant.now.unit v
    && meets (test v) c.args.grant.now.slots c.args.chip.now.links 0 c.args.grant.now.path in
    ap (list_any passes) c.uses_of-u-items.ensures
    ∙ touches-uses_of c.args.chip.now.links c.args.groups.now test c.args.grant.now

-- The use case has a row.
pub meets_row-requires-clause-row : goal.meets_row-requires-clause-row
meets_row-requires-clause-row c =
    omega (
      arith,
      c.requires.rows,
      has_row c.args.groups.now c.args.grant.now.unit _
          (length c.args.chip.now.links) (sym c.has_unit.ensures ∙ c.if-has_unit.true),
    )

-- Flits meet in this use case.
pub returns-then-meets_row : goal.returns-then-meets_row
returns-then-meets_row c = λ test table.
    let passes : ℕ → Bool = λ v. has_unit c.args.groups.now c.args.grant.now.unit v
    && meets (test v) c.args.grant.now.slots c.args.chip.now.links 0 c.args.grant.now.path in
    walk_here passes c.uses_of-u-items.result.now c.loop-u.u-index _
    (c.loop-u.invariant test table) c.loop-u-test.true
    (and_from _ _ (sym c.has_unit.ensures ∙ c.if-has_unit.true)
    (sym (c.meets_row.ensures test table) ∙ c.if-meets_row.true))

-- They don't, or it hasn't the unit.
pub loop-u-preserved : goal.loop-u-preserved
loop-u-preserved c = λ test table.
    let passes : ℕ → Bool = λ v. has_unit c.args.groups.now c.args.grant.now.unit v
    && meets (test v) c.args.grant.now.slots c.args.chip.now.links 0 c.args.grant.now.path in
    walk_on passes c.uses_of-u-items.result.now c.loop-u.u-index _
    (c.loop-u.invariant test table) c.loop-u-test.true (elim c.else-has_unit.branch [
      | else-has_unit-via-then-has_unit+else-meets_row w ↦
          and_right _ _ (sym (w.meets_row.ensures test table) ∙ w.if-meets_row.false)
      | else-has_unit-via-else-has_unit w ↦
          and_left _ _ (sym c.has_unit.ensures ∙ w.if-has_unit.false)
    ])

-- No use case is left.
pub returns : goal.returns
returns c = λ test table.
    walk_end (λ v. has_unit c.args.groups.now c.args.grant.now.unit v
    && meets (test v) c.args.grant.now.slots c.args.chip.now.links 0 c.args.grant.now.path)
    c.uses_of-u-items.result.now c.loop-u.u-index _ (c.loop-u.invariant test table)
    (omega (arith, c.loop-u-test.false))
