use Rattle.std.proofs.Common.{◌≡◌, ◌∙◌, ◌<◌, ◌+◌, ◌-◌, ◌/◌, Some, length, slice_get, sym, ap, arith}
use Rattle.std.proofs.Common.{le-ltb}
use Rattle.std.proofs.lemmas.Option.{slice_get-get_or}
use Rattle.aeth_group.specs.declared.grant.Grant.{Grant}
use Rattle.aeth_check.proofs.Halves.{before_more, behind_more, decided, none_for}
use Rattle.aeth_check.proofs.channels.has_side.Goals as goal

-- The grant in the middle comes before the side.
pub halves-preserved-then-is_before : goal.halves-preserved-then-is_before
halves-preserved-then-is_before c =
    let grants = c.args.grants.now in
    let middle = c.halves.low + (c.halves.high - c.halves.low) / 2 in
    let within : middle < length grants =
    omega (arith, c.halves-test.true, c.halves.invariant.within) in
    let at : slice_get grants middle ≡ Some c.index-grants-middle.result =
    slice_get-get_or grants middle c.index-grants-middle.result within
    ∙ ap (λ (g : Grant). Some g) (sym c.index-grants-middle.is) in
    record {
      order = omega (arith, c.halves-test.true);
      within = c.halves.invariant.within;
      before = before_more c.args.unit c.args.side grants c.requires middle
          c.index-grants-middle.result at (sym c.is_before.ensures ∙ c.if-is_before.true);
      behind = c.halves.invariant.behind;
    }

-- It doesn't.
pub halves-preserved : goal.halves-preserved
halves-preserved c =
    let grants = c.args.grants.now in
    let middle = c.halves.low + (c.halves.high - c.halves.low) / 2 in
    let within : middle < length grants =
    omega (arith, c.halves-test.true, c.halves.invariant.within) in
    let at : slice_get grants middle ≡ Some c.index-grants-middle.result =
    slice_get-get_or grants middle c.index-grants-middle.result within
    ∙ ap (λ (g : Grant). Some g) (sym c.index-grants-middle.is) in
    record {
      order = omega (arith, c.halves-test.true);
      within = omega (arith, within);
      before = c.halves.invariant.before;
      behind = behind_more c.args.unit c.args.side grants c.requires middle
          c.index-grants-middle.result at (sym c.is_before.ensures ∙ c.if-is_before.false);
    }

-- The grant at the place that was found decides.
pub returns-then-low-grants : goal.returns-then-low-grants
returns-then-low-grants c =
    let grants = c.args.grants.now in
    let grant = c.index-grants-low.result in
    let at : slice_get grants c.halves.low ≡ Some grant =
    slice_get-get_or grants c.halves.low grant c.if-low-grants.true
    ∙ ap (λ (g : Grant). Some g) (sym c.index-grants-low.is) in
    c.is_for.ensures
    ∙ decided c.args.unit c.args.side grants c.requires c.halves.low grant at
    c.halves.invariant.before
    (c.halves.invariant.behind c.halves.low grant c.halves-test.false at)

-- All come before the side.
pub returns-else-low-grants : goal.returns-else-low-grants
returns-else-low-grants c =
    le-ltb c.halves.low (length c.args.grants.now) c.if-low-grants.false
    ∙ none_for c.args.unit c.args.side c.args.grants.now c.requires c.halves.low
    c.if-low-grants.false c.halves.invariant.before
