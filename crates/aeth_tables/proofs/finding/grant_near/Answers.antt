use Rattle.std.proofs.Common.{◌≡◌, ◌∙◌, Some, slice_get, true, sym, ap, subst}
use Rattle.std.proofs.lemmas.Option.{same_Some, slice_get-get_or}
use Rattle.aeth_group.specs.declared.grant.Grant.{Grant}
use Rattle.aeth_plan.specs.UnitGrants.{is_for}
use Rattle.aeth_tables.proofs.SearchLaws.{grant-only}
use Rattle.aeth_tables.proofs.finding.grant_near.Goals as goal

-- The grant that was looked at is the one.
pub returns-then-is_for : goal.returns-then-is_for
returns-then-is_for c =
    let grants = c.args.grants.now in
    let seen = c.index-grants-place.result in
    let grant = c.index-grants-place-then-is_for.result in
    let there : slice_get grants c.args.place ≡ Some seen =
    slice_get-get_or grants c.args.place seen c.if-place-grants.true
    ∙ ap (λ (g : Grant). Some g) (sym c.index-grants-place.is) in
    let again : slice_get grants c.args.place ≡ Some grant =
    slice_get-get_or grants c.args.place grant c.if-place-grants.true
    ∙ ap (λ (g : Grant). Some g) (sym c.index-grants-place-then-is_for.is) in
    let passes = subst (λ (g : Grant). is_for c.args.unit c.args.side g ≡ true)
    (same_Some seen grant (sym there ∙ again)) (sym c.is_for.ensures ∙ c.if-is_for.true) in
    sym (grant-only c.args.unit c.args.side grants c.requires c.args.place grant again passes)
