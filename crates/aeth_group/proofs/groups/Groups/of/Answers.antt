use Rattle.std.proofs.Common.{◌≡◌, ◌∙◌, List, length, map, ap, subst, sym, arith}
use Rattle.std.proofs.lemmas.List.FromFn.{length-map-range_with_len}
use Rattle.std.specs.List.{range_with_len}
use Rattle.aeth_group.specs.{AppGroups.IsGroupsOf, Members.IsGroups, Members.UseGroupData}
use Rattle.aeth_group.specs.{Members.use_group, Rows.AreRows}
use Rattle.aeth_group.proofs.{AppGroupsLemmas.is_groups_of, GroupLemmas.class_of-marked}
use Rattle.aeth_group.proofs.{GroupLemmas.firsts_below-marked, MakingLemmas.groups_are}
use Rattle.aeth_group.proofs.{MakingLemmas.uses-more, MemberLemmas.is_groups-groups_of}
use Rattle.aeth_group.proofs.groups.Groups.of.Goals as goal

-- One more use case.
pub loop-u-preserved : goal.loop-u-preserved
loop-u-preserved c =
    let app = c.args.app.now in
    uses-more app c.loop-u.u c.loop-u.uses.items c.push.new.self.items
    (record { group = c.class_of-group.result; has = c.in_ok-has.has.items }) c.loop-u.invariant
    c.in_ok-push.ensures.items
    (c.class_of-group.ensures
    ∙ class_of-marked app.uses c.chained-marks.result c.uses-count.result c.loop-u.u
    c.chained-marks.ensures c.uses-count.ensures.uses c.loop-u-test.true)
    c.in_ok-has.ensures

-- The groups are those of all use cases.
pub returns-clause-groups : goal.returns-clause-groups
returns-clause-groups c =
    let app = c.args.app.now in
    let uses = c.uses-count.ensures.uses in
    let all : c.loop-u.u ≡ length app.uses = omega arith in
    groups_are app _ c.connections.ensures.connections
    (c.firsts_below-groups.ensures.firsts
    ∙ firsts_below-marked app.uses c.chained-marks.result c.uses-count.result
    c.chained-marks.ensures uses)
    (c.loop-u.invariant ∙ ap (λ n. map (use_group app) (range_with_len 0 n)) all)

-- They are the groups of the application.
pub returns-clause-joined : goal.returns-clause-joined
returns-clause-joined c =
    subst (IsGroupsOf c.args.app.now) (sym (returns-clause-groups c)) (is_groups_of c.args.app.now)

-- What holds of all groups.
pub invariant_of-result : goal.invariant_of-result
invariant_of-result c =
    let uses = c.uses-count.ensures.uses in
    let few = c.uses-count.ensures.most in
    let connections = c.connections.ensures.connections in
    let most = c.connections.ensures.most in (
      subst IsGroups (sym (returns-clause-groups c))
          (is_groups-groups_of c.args.app.now (omega arith) (omega arith)),
      subst (λ us. AreRows us c.firsts_below-groups.result c.in_ok-rows.rows.items)
          c.deref.ensures.value c.in_ok-rows.ensures,
    )

-- There are at most 16 use cases.
pub rows_of-requires : goal.rows_of-requires
rows_of-requires c =
    let size = length-map-range_with_len (use_group c.args.app.now) 0 c.loop-u.u in
    let uses = ap (λ (us : List UseGroupData). length us)
    (c.deref.ensures.value ∙ c.loop-u.invariant) in
    omega (arith, size, uses, c.loop-u.auto.u-end, c.uses-count.ensures.most)
