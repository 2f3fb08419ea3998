-- Laws of the groups of an application: what their readers tell, over the application.
use Rattle.std.proofs.Common.{◌≡◌, ◌∙◌, ◌<◌, ℕ, false, ◌≤◌, length, map, refl, sym, ap, subst}
use Rattle.std.proofs.Common.{arith, All, Some, slice_get, unwrap_or}
use Rattle.std.proofs.lemmas.List.FromFn.{get_or-map-range_with_len, length-map-range_with_len}
use Rattle.std.proofs.lemmas.Option.{slice_get-get_or}
use Rattle.std.specs.List.{range_with_len}
use Rattle.aeth_app.specs.App.{AppData, has_connection, is_marked}
use Rattle.aeth_app.specs.Limits.{max_connections, max_uses}
use Rattle.aeth_group.specs.Groups.{group_count, group_of}
use Rattle.aeth_group.specs.Members.{IsGroups, UseGroupData, group_at, group_in, groups_of, has_at}
use Rattle.aeth_group.specs.Members.{use_group, use_has}
use Rattle.aeth_group.proofs.GroupLemmas.{group_count-le, group_of-below}

-- ---- all use cases

-- The groups of all use cases are below their number.
uses_below : (app : AppData)
    → All (λ one. one.group < group_count app.uses)
    (map (use_group app) (range_with_len 0 (length app.uses)))
uses_below app k default low =
    let count = length app.uses in
    let long = length-map-range_with_len (use_group app) 0 count in
    let within : k < count = omega arith in
    let there =
    get_or-map-range_with_len (use_group app) 0 count k k default within (omega arith) in
    subst (λ (one : UseGroupData). one.group < group_count app.uses) (sym there)
    (group_of-below app.uses k within)

-- There are as many use cases.
pub length-groups_of : (app : AppData) → length (groups_of app).uses ≡ length app.uses
unfolding groups_of
length-groups_of app = length-map-range_with_len (use_group app) 0 (length app.uses)

-- There are as many connections.
pub connections-groups_of : (app : AppData)
    → (groups_of app).connections ≡ length app.connections
unfolding groups_of
connections-groups_of app = refl

-- There are as many groups.
pub count-groups_of : (app : AppData) → (groups_of app).count ≡ group_count app.uses
unfolding groups_of
count-groups_of app = refl

-- What holds of all groups holds of those of an application within its limits.
pub is_groups-groups_of : (app : AppData) → length app.connections ≤ max_connections
    → length app.uses ≤ max_uses → IsGroups (groups_of app)
unfolding groups_of
is_groups-groups_of app connections uses =
    let few = group_count-le app.uses in
    let long = length-map-range_with_len (use_group app) 0 (length app.uses) in
    record {
      connections = connections;
      count = omega arith;
      uses = omega arith;
      below = uses_below app;
    }

-- ---- one use case

-- The use case at a place.
use_at : (app : AppData) (u : ℕ) → u < length app.uses
    → slice_get (groups_of app).uses u ≡ Some (use_group app u)
unfolding groups_of
use_at app u within =
    let size = length-map-range_with_len (use_group app) 0 (length app.uses) in
    let one = use_group app u in
    slice_get-get_or (groups_of app).uses u one (omega arith)
    ∙ ap Some (get_or-map-range_with_len (use_group app) 0 (length app.uses) u u one within (omega
    arith))

-- A use case's marks tell which connections it has.
is_marked-use_group : (app : AppData) (u c : ℕ) → c < length app.connections
    → is_marked (use_group app u).has c ≡ has_connection app.uses u c
is_marked-use_group app u c within =
    let test = has_connection app.uses u in
    let size = length-map-range_with_len test 0 (length app.connections) in
    ap (λ o. unwrap_or o false) (slice_get-get_or (use_group app u).has c false (omega arith))
    ∙ get_or-map-range_with_len test 0 (length app.connections) c c false within (omega arith)

-- The group of a use case.
pub group_at-groups_of : (app : AppData) (u : ℕ) → u < length app.uses
    → group_at (groups_of app) u ≡ group_of app.uses u
group_at-groups_of app u within = ap group_in (use_at app u within)

-- Whether a use case has a connection.
pub has_at-groups_of : (app : AppData) (u c : ℕ) → u < length app.uses
    → c < length app.connections → has_at (groups_of app) u c ≡ has_connection app.uses u c
has_at-groups_of app u c within below =
    ap (λ one. use_has one c) (use_at app u within) ∙ is_marked-use_group app u c below
