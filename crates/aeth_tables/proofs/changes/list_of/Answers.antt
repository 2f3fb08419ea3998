use Rattle.std.proofs.Common.{◌≡◌, ◌∙◌, ◌≤◌, ℕ, All, List, Option, filter, length, map, sym, ap}
use Rattle.std.proofs.Common.{arith, subst, IfSome, option_map}
use Rattle.std.proofs.lemmas.List.{length-map, Elements.All-push}
use Rattle.std.specs.List.{filter_map, range_with_len}
use Rattle.aeth_chip.specs.Chip.{ChipData}
use Rattle.aeth_app.specs.App.{AppData}
use Rattle.aeth_group.specs.Members.{GroupsData, group_at, has_at}
use Rattle.aeth_group.proofs.MemberLemmas.{connections-groups_of}
use Rattle.aeth_plan.specs.Plan.{PlanData}
use Rattle.aeth_tables.specs.{Changes.change_of, Changes.most_writes, Granted.granted_in}
use Rattle.aeth_tables.specs.{Granted.granted_of, declared.changes.Change.Change}
use Rattle.aeth_tables.proofs.GrantedLists.{given-map, given-none, given-not, given-some}
use Rattle.aeth_tables.proofs.GrantedLists.{granted_few, plan_links}
use Rattle.aeth_tables.proofs.changes.list_of.Goals.{else-has, then-has+in-Some+in_ok-push}
use Rattle.aeth_tables.proofs.changes.list_of.Goals.{then-has+in_default}
use Rattle.aeth_tables.proofs.changes.list_of.Goals as goal

-- The paths of the plan are those of the chip.
pub change_in-requires-clause-links : goal.change_in-requires-clause-links
change_in-requires-clause-links c =
    plan_links c.args.chip.now c.args.app.now c.args.groups.now c.args.plan.now c.requires.plan

-- One more connection.
pub loop-c-preserved : goal.loop-c-preserved
loop-c-preserved c =
    let app = c.args.app.now in
    let plan = c.args.plan.now in
    let u = c.args.u.0 in
    let change = change_of c.args.chip.now in
    let give = λ (conn : ℕ). option_map change
    (granted_of app plan (group_at c.args.groups.now u) conn) in
    let test = has_at c.args.groups.now u in
    let small = λ (one : Change). one.writes ≤ most_writes in
    let group = ap (λ (g : ℕ). option_map change (granted_of app plan g c.loop-c.c))
    c.group_of-group.ensures.group in
    let before = c.loop-c.list.items in
    let after = c.if-has.list.items in
    elim c.if-has.branch [
      | then-has+in-Some+in_ok-push w ↦
          let items = ap (λ v. v.items) w.list-is ∙ w.in_ok-push.ensures.items in record {
            changes = given-some give test c.loop-c.c before after c.loop-c.invariant.changes
                w.in-Some.change (sym c.has.ensures ∙ w.if-has.true)
                (sym group ∙ sym w.change_in.ensures.change ∙ w.in-Some.is) items;
            few = subst (All small) (sym items) (All-push small before w.in-Some.change
                c.loop-c.invariant.few
                (subst (λ (o : Option Change). IfSome o small) w.in-Some.is
                w.change_in.ensures.few));
          }
      | then-has+in_default w ↦
          let same = ap (λ v. v.items) w.list-is in record {
            changes = given-none give test c.loop-c.c before after c.loop-c.invariant.changes
                (sym c.has.ensures ∙ w.if-has.true)
                (sym group ∙ sym w.change_in.ensures.change ∙ w.in_default.is) same;
            few = subst (All small) (sym same) c.loop-c.invariant.few;
          }
      | else-has w ↦
          let same = ap (λ v. v.items) w.list-is in record {
            changes = given-not give test c.loop-c.c before after c.loop-c.invariant.changes
                (sym c.has.ensures ∙ w.if-has.false) same;
            few = subst (All small) (sym same) c.loop-c.invariant.few;
          }
    ]

-- All connections were seen.
all_seen : (chip : ChipData) (app : AppData) (groups : GroupsData) (plan : PlanData) (u n : ℕ)
    (changes : List Change) → n ≡ groups.connections
    → changes ≡ filter_map (λ (conn : ℕ). option_map (change_of chip)
    (granted_of app plan (group_at groups u) conn)) (filter (has_at groups u) (range_with_len 0 n))
    → changes ≡ map (change_of chip) (granted_in app groups plan u)
unfolding granted_in
all_seen chip app groups plan u n changes all is =
    let give = granted_of app plan (group_at groups u) in
    is ∙ given-map (change_of chip) give (filter (has_at groups u) (range_with_len 0 n))
    ∙ ap (λ (m : ℕ). map (change_of chip) (filter_map give (filter (has_at groups u)
    (range_with_len 0 m)))) all

pub returns-clause-list : goal.returns-clause-list
returns-clause-list c =
    let count = ap (λ (g : GroupsData). g.connections) c.requires.groups
    ∙ connections-groups_of c.args.app.now in
    all_seen c.args.chip.now c.args.app.now c.args.groups.now c.args.plan.now c.args.u.0 c.loop-c.c
    c.loop-c.list.items
    (omega (arith, count, c.connections-c-end.ensures.connections, c.loop-c-test.false))
    c.loop-c.invariant.changes

-- There are no more than all connections.
pub returns-clause-few : goal.returns-clause-few
returns-clause-few c =
    let chip = c.args.chip.now in
    let app = c.args.app.now in
    let groups = c.args.groups.now in
    let plan = c.args.plan.now in
    let u = c.args.u.0 in
    let count = ap (λ (g : GroupsData). g.connections) c.requires.groups
    ∙ connections-groups_of app in
    let seen = all_seen chip app groups plan u c.loop-c.c c.loop-c.list.items
    (omega (arith, count, c.connections-c-end.ensures.connections, c.loop-c-test.false))
    c.loop-c.invariant.changes in record {
      count = omega (
        arith,
        granted_few app groups plan u,
        count,
        c.connections-c-end.ensures.connections,
        c.connections-c-end.ensures.most,
        ap length seen ∙ length-map (granted_in app groups plan u) (change_of chip),
      );
      each = c.loop-c.invariant.few;
    }
