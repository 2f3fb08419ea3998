-- The connections of a use case by an accepted plan: each is there, with its seats and grants.
use Rattle.std.proofs.Common.{◌≡◌, ◌∙◌, ◌<◌, ℕ, true, eqb, [], Option, Some, None, Contains}
use Rattle.std.proofs.Common.{slice_get, length, filter, refl, sym, ap, map, subst, arith, ◌&&◌}
use Rattle.std.proofs.Common.{eq-eqb}
use Rattle.std.proofs.lemmas.{Bool.false≢true, Option.slice_get-get_or}
use Rattle.std.specs.List.{range_with_len}
use Rattle.aeth_base.proofs.{Members.filter-Contains, Members.filter_map-Contains, Ranges.All-range}
use Rattle.aeth_base.specs.declared.ids.{CoreId.CoreId, Side.Side, Side.TheVariants.Back}
use Rattle.aeth_base.specs.declared.ids.{Side.TheVariants.Fwd, Unit.Unit as GroupUnit}
use Rattle.aeth_chip.specs.Chip.{ChipData}
use Rattle.aeth_app.specs.App.{AppData, is_marked}
use Rattle.aeth_group.specs.Members.{GroupsData, IsGroups, UseGroupData, group_at, group_in}
use Rattle.aeth_group.specs.Members.{groups_of, has_at, is_member, use_has}
use Rattle.aeth_group.specs.declared.grant.{SeatLine.SeatLine, Grant.Grant}
use Rattle.aeth_group.proofs.{ListLemmas.any_from_passes, MemberLemmas.connections-groups_of}
use Rattle.aeth_group.proofs.{MemberLemmas.is_groups-groups_of, MemberLemmas.length-groups_of}
use Rattle.aeth_group.proofs.{UnitLemmas.units_from_unit}
use Rattle.aeth_plan.specs.{Plan.PlanData, Design.IsDesign, UnitGrants.is_for}
use Rattle.aeth_tables.specs.Granted.{grant_of, granted_in, granted_of, line_of, unit_in}
use Rattle.aeth_tables.specs.Reserved.{IsPlanned, IsReserved}
use Rattle.aeth_tables.specs.declared.granted.GrantedConnection.{GrantedConnection}
use Rattle.aeth_tables.proofs.FindLaws.{found_is, found_some}
use Rattle.aeth_tables.proofs.ListLaws.{all_has, has_place}
use Rattle.aeth_tables.proofs.PlaceLaws.{keys_of_given}
use Rattle.aeth_tables.proofs.ReservedLaws.{IsMade, for_from, grant_serves, line_from_ni}
use Rattle.aeth_tables.proofs.ReservedLaws.{line_seats, made_of, made_there, of_from}

no_use : UseGroupData
no_use = record { group = 0; has = [] }

-- A use case's connection is one of its group's.
pub member_of_use : (groups : GroupsData) (u c : ℕ) → has_at groups u c ≡ true
    → is_member groups (group_at groups u) c ≡ true
member_of_use groups u c has =
    let cases : (o : Option UseGroupData) → slice_get groups.uses u ≡ o → use_has o c ≡ true
    → is_member groups (group_at groups u) c ≡ true =
    elim [
      | None ↦ λ at none. absurd (false≢true none)
      | Some one ↦ λ at marked.
          let group : group_at groups u ≡ one.group = rw at refl in
          any_from_passes
          (λ (other : UseGroupData). eqb other.group (group_at groups u) && is_marked other.has c)
          groups.uses one (has_place groups.uses u one at)
          (rw (group, eq-eqb one.group one.group refl) marked)
    ]
    in cases (slice_get groups.uses u) refl has

pub group_below : (groups : GroupsData) → IsGroups groups → (u : ℕ) → u < length groups.uses
    → group_at groups u < groups.count
group_below groups is_groups u within =
    let one = slice_get-get_or groups.uses u no_use within in
    subst (λ (o : Option UseGroupData). group_in o < groups.count) (sym one)
    (is_groups.below u no_use within)

module _ (chip : ChipData) (app : AppData) (plan : PlanData) (design : IsDesign chip app plan)
    (group : ℕ) where
  -- What is made of its parts has the seats and grants that it must.
  pub reserved_from_made : (conn : ℕ) (granted : GrantedConnection)
      → IsMade app plan group conn granted → IsReserved chip app granted
  reserved_from_made conn granted made = record {
    connection_is = rw made.conn_is made.connection_is;
    sends = elim [
      | Fwd ↦ line_seats chip app plan design granted.connection.from granted.from made.from
      | Back ↦ line_seats chip app plan design granted.connection.to granted.to made.to
    ];
    receives = elim [
      | Fwd ↦ line_seats chip app plan design granted.connection.to granted.to made.to
      | Back ↦ line_seats chip app plan design granted.connection.from granted.from made.from
    ];
    serves = elim [
      | Fwd ↦ grant_serves chip app plan design group conn Fwd granted.connection granted.from
          granted.to granted.fwd made.connection_is made.from made.to made.fwd
      | Back ↦ grant_serves chip app plan design group conn Back granted.connection granted.to
          granted.from granted.back made.connection_is made.to made.from made.back
    ];
  }

  -- They are the plan's.
  grant_planned : (conn : ℕ) (side : Side) (grant : Grant)
      → grant_of plan.grants side (unit_in group conn) ≡ Some grant
      → Contains plan.grants grant × (grant.unit ≡ unit_in group conn) × (grant.side ≡ side)
  grant_planned conn side grant found =
      let is = found_is (is_for (unit_in group conn) side) plan.grants grant found in
      let of = of_from group conn side grant is.1 in
      (is.0, of.unit_is, of.side_is)

  planned_from_made : (conn : ℕ) (granted : GrantedConnection)
      → IsMade app plan group conn granted → IsPlanned plan group granted
  planned_from_made conn granted made =
      let seat = λ (core : CoreId) (line : SeatLine) (found : line_of plan.seats core ≡ Some line).
      (found_is (λ (l : SeatLine). eqb l.core.0 core.0) plan.seats line found).0 in
      let fwd = grant_planned conn Fwd granted.fwd made.fwd in
      let back = grant_planned conn Back granted.back made.back in
      record {
        seated = elim [
          | Fwd ↦ seat granted.connection.from granted.from made.from
          | Back ↦ seat granted.connection.to granted.to made.to
        ];
        planned = elim [ Fwd ↦ fwd.0 | Back ↦ back.0 ];
        unit_is = elim [
          | Fwd ↦ fwd.1 ∙ ap (unit_in group) (sym made.conn_is)
          | Back ↦ back.1 ∙ ap (unit_in group) (sym made.conn_is)
        ];
        side_is = elim [ Fwd ↦ fwd.2 | Back ↦ back.2 ];
      }

module _ (chip : ChipData) (app : AppData) (plan : PlanData) (design : IsDesign chip app plan)
    (u : ℕ) (within : u < length app.uses) where
  -- A connection of the use case has a grant for each side in its group.
  side_granted : (conn : ℕ) (side : Side) → conn < length app.connections
      → has_at (groups_of app) u conn ≡ true
      → (grant : Grant) × (grant_of plan.grants side (unit_in (group_at (groups_of app) u) conn)
      ≡ Some grant)
  side_granted conn side below has =
      let groups = groups_of app in
      let group = group_at groups u in
      let is_groups = is_groups-groups_of app design.app_is.connections design.app_is.uses in
      let unit = unit_in group conn in
      let is_unit = units_from_unit groups unit (record {
        connection = omega (arith, connections-groups_of app);
        group = group_below groups is_groups u (omega (arith, length-groups_of app));
        member = member_of_use groups u conn has;
      }) in
      let given = design.accepted.whole unit side is_unit in
      found_some (is_for unit side) plan.grants given.grant given.granted
      (for_from group conn side given.grant given.unit_is given.side_is)

  -- Each connection of the use case is there.
  pub there : (conn : ℕ) → conn < length app.connections → has_at (groups_of app) u conn ≡ true
      → (granted : GrantedConnection)
      × (granted_of app plan (group_at (groups_of app) u) conn ≡ Some granted)
  there conn below has =
      let group = group_at (groups_of app) u in
      let (fwd, forward) = side_granted conn Fwd below has in
      let (back, backward) = side_granted conn Back below has in
      let is = found_is (is_for (unit_in group conn) Fwd) plan.grants fwd forward in
      let of = of_from group conn Fwd fwd is.1 in
      let path = design.accepted.paths fwd is.0 in
      let at : slice_get app.connections conn ≡ Some path.connection =
      ap (slice_get app.connections) (sym (ap (λ (unit : GroupUnit). unit.conn.0) of.unit_is))
      ∙ path.is in
      let (from, sends, from_is) = line_from_ni plan.seats path.connection.from path.from
      (rw of.side_is at path.sends) in
      let (to, receives, to_is) = line_from_ni plan.seats path.connection.to path.to
      (rw of.side_is at path.receives) in (
        _,
        made_there app plan group conn path.connection from to fwd back at sends receives forward
            backward,
      )

  -- Those of the use case are made of their parts, and the use case has them.
  pub made_in : (granted : GrantedConnection)
      → Contains (granted_in app (groups_of app) plan u) granted
      → (conn : ℕ) × (has_at (groups_of app) u conn ≡ true)
      × IsMade app plan (group_at (groups_of app) u) conn granted
  unfolding granted_in
  made_in granted has =
      let groups = groups_of app in
      let group = group_at groups u in
      let numbers = filter (has_at groups u) (range_with_len 0 groups.connections) in
      let (conn, inside, gives) =
      filter_map-Contains (granted_of app plan group) numbers granted has in
      let found = filter-Contains (has_at groups u) (range_with_len 0 groups.connections) conn
      inside in
      (conn, found.1, made_of app plan group conn granted gives)

  pub is_reserved : (granted : GrantedConnection)
      → Contains (granted_in app (groups_of app) plan u) granted → IsReserved chip app granted
  is_reserved granted has =
      let (conn, of_use, made) = made_in granted has in
      reserved_from_made chip app plan design (group_at (groups_of app) u) conn granted made

  pub is_planned : (granted : GrantedConnection)
      → Contains (granted_in app (groups_of app) plan u) granted
      → IsPlanned plan (group_at (groups_of app) u) granted
  is_planned granted has =
      let (conn, of_use, made) = made_in granted has in
      planned_from_made chip app plan design (group_at (groups_of app) u) conn granted made

  pub is_had : (granted : GrantedConnection)
      → Contains (granted_in app (groups_of app) plan u) granted
      → has_at (groups_of app) u granted.conn.0 ≡ true
  is_had granted has =
      let (conn, of_use, made) = made_in granted has in
      ap (has_at (groups_of app) u) made.conn_is ∙ of_use

  -- All connections of the use case are there, in file order.
  pub conns_of : map (λ (one : GrantedConnection). one.conn.0)
      (granted_in app (groups_of app) plan u)
      ≡ filter (has_at (groups_of app) u) (range_with_len 0 (groups_of app).connections)
  unfolding granted_in
  conns_of =
      let groups = groups_of app in
      let group = group_at groups u in
      keys_of_given (granted_of app plan group) (λ (one : GrantedConnection). one.conn.0)
      (filter (has_at groups u) (range_with_len 0 groups.connections)) (λ conn inside.
      let found = filter-Contains (has_at groups u) (range_with_len 0 groups.connections) conn
      inside in
      let below = all_has (λ k. k < groups.connections) (range_with_len 0 groups.connections) conn
      (All-range groups.connections) found.0 in
      let (granted, gives) = there conn (omega (arith, below, connections-groups_of app)) found.1 in
      (granted, gives, (made_of app plan group conn granted gives).conn_is))
