use Rattle.std.proofs.Common.{◌∙◌, sym, ap, arith}
use Rattle.std.specs.List.{list_any}
use Rattle.aeth_base.specs.declared.ids.Unit.{Unit as GroupUnit}
use Rattle.aeth_group.specs.Members.{has_unit}
use Rattle.aeth_group.proofs.RowLemmas.{member-uses_of, walk_end, walk_here, walk_on}
use Rattle.aeth_group.proofs.groups.Groups.member.Goals as goal

-- All of them decide it.
pub loop-u-init : goal.loop-u-init
loop-u-init c =
    let unit : GroupUnit = record { conn = c.args.c; group = c.args.g } in
    ap (list_any (has_unit c.args.self.now unit)) c.uses_of-u-items.ensures
    ∙ member-uses_of c.args.self.now unit

-- One has it.
pub returns-then-has_unit : goal.returns-then-has_unit
returns-then-has_unit c =
    walk_here (has_unit c.args.self.now (record { conn = c.args.c; group = c.args.g }))
    c.uses_of-u-items.result.now c.loop-u.u-index _ c.loop-u.invariant c.loop-u-test.true
    (sym c.has_unit.ensures ∙ c.if-has_unit.true)

-- One doesn't.
pub loop-u-preserved : goal.loop-u-preserved
loop-u-preserved c =
    walk_on (has_unit c.args.self.now (record { conn = c.args.c; group = c.args.g }))
    c.uses_of-u-items.result.now c.loop-u.u-index _ c.loop-u.invariant c.loop-u-test.true
    (sym c.has_unit.ensures ∙ c.if-has_unit.false)

-- None is left.
pub returns : goal.returns
returns c =
    walk_end (has_unit c.args.self.now (record { conn = c.args.c; group = c.args.g }))
    c.uses_of-u-items.result.now c.loop-u.u-index _ c.loop-u.invariant
    (omega (arith, c.loop-u-test.false))
