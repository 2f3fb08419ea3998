use Rattle.std.proofs.Common.{◌≡◌, ◌∙◌, ℕ, List, filter, sym, ap, arith}
use Rattle.std.specs.List.{filter_map, range_with_len}
use Rattle.aeth_app.specs.App.{AppData}
use Rattle.aeth_group.specs.Members.{GroupsData, group_at, has_at}
use Rattle.aeth_group.proofs.MemberLemmas.{connections-groups_of}
use Rattle.aeth_plan.specs.Plan.{PlanData}
use Rattle.aeth_tables.specs.Granted.{granted_in, granted_of}
use Rattle.aeth_tables.specs.declared.granted.GrantedConnection.{GrantedConnection}
use Rattle.aeth_tables.proofs.GrantedLists.{given-none, given-not, given-some}
use Rattle.aeth_tables.proofs.granted.granted_in.Goals.{else-has, then-has+in-Some+in_ok-push}
use Rattle.aeth_tables.proofs.granted.granted_in.Goals.{then-has+in_default}
use Rattle.aeth_tables.proofs.granted.granted_in.Goals as goal

-- One more connection.
pub loop-c-preserved : goal.loop-c-preserved
loop-c-preserved c =
    let app = c.args.app.now in
    let plan = c.args.plan.now in
    let u = c.args.u.0 in
    let give = granted_of app plan (group_at c.args.groups.now u) in
    let test = has_at c.args.groups.now u in
    let group = ap (λ (g : ℕ). granted_of app plan g c.loop-c.c) c.group_of-group.ensures.group in
    let before = c.loop-c.granted.items in
    let after = c.if-has.granted.items in
    elim c.if-has.branch [
      | then-has+in-Some+in_ok-push w ↦
          given-some give test c.loop-c.c before after c.loop-c.invariant w.in-Some.one
          (sym c.has.ensures ∙ w.if-has.true)
          (sym group ∙ sym w.granted_of.ensures ∙ w.in-Some.is)
          (ap (λ v. v.items) w.granted-is ∙ w.in_ok-push.ensures.items)
      | then-has+in_default w ↦
          given-none give test c.loop-c.c before after c.loop-c.invariant
          (sym c.has.ensures ∙ w.if-has.true)
          (sym group ∙ sym w.granted_of.ensures ∙ w.in_default.is)
          (ap (λ v. v.items) w.granted-is)
      | else-has w ↦
          given-not give test c.loop-c.c before after c.loop-c.invariant
          (sym c.has.ensures ∙ w.if-has.false) (ap (λ v. v.items) w.granted-is)
    ]

-- All connections were seen.
all_seen : (app : AppData) (groups : GroupsData) (plan : PlanData) (u n : ℕ)
    (granted : List GrantedConnection) → n ≡ groups.connections
    → granted ≡ filter_map (granted_of app plan (group_at groups u))
    (filter (has_at groups u) (range_with_len 0 n)) → granted ≡ granted_in app groups plan u
unfolding granted_in
all_seen app groups plan u n granted all is =
    is ∙ ap (λ (m : ℕ). filter_map (granted_of app plan (group_at groups u))
    (filter (has_at groups u) (range_with_len 0 m))) all

pub returns : goal.returns
returns c =
    let count = ap (λ (g : GroupsData). g.connections) c.requires.groups
    ∙ connections-groups_of c.args.app.now in
    all_seen c.args.app.now c.args.groups.now c.args.plan.now c.args.u.0 c.loop-c.c
    c.loop-c.granted.items
    (omega (arith, count, c.connections-c-end.ensures.connections, c.loop-c-test.false))
    c.loop-c.invariant
