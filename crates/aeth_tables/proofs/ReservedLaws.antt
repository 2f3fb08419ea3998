-- By an accepted plan each connection of a use case has its seats and grants.
use Rattle.std.proofs.Common.{◌≡◌, ◌∙◌, ◌<◌, ℕ, true, eqb, List, [], ◌∷◌, Option, Some, None}
use Rattle.std.proofs.Common.{slice_get, length, refl, sym, ap, inl, inr, option_and_then}
use Rattle.std.proofs.Common.{option_map, eq-eqb, eqb-true}
use Rattle.std.proofs.lemmas.{Bool.and_parts, Bool.cases_Bool, List.Elements.All-from_recursion}
use Rattle.std.proofs.lemmas.{Option.none-some, Option.same_Some}
use Rattle.aeth_base.specs.declared.ids.{CoreId.CoreId, NiId.NiId, Side.Side, Side.TheVariants.Back}
use Rattle.aeth_base.specs.declared.ids.{Side.TheVariants.Fwd, Unit.Unit as GroupUnit}
use Rattle.aeth_base.proofs.SideLemmas.{same_side-is, same_side-itself}
use Rattle.aeth_chip.specs.Chip.{ChipData}
use Rattle.aeth_app.specs.{App.AppData, declared.connection.Connection.Connection}
use Rattle.aeth_app.specs.{Connections.receiver, Connections.sender}
use Rattle.aeth_group.specs.Members.{groups_of}
use Rattle.aeth_group.specs.declared.grant.{Grant.Grant, SeatLine.SeatLine}
use Rattle.aeth_plan.specs.{Plan.IsGrantOf, Plan.IsSeatOf, Plan.PlanData, UnitGrants.is_for}
use Rattle.aeth_plan.specs.{Seated.ni_of, Design.IsDesign}
use Rattle.aeth_tables.specs.Granted.{grant_of, granted_of, granted_with, line_of, unit_in}
use Rattle.aeth_tables.specs.Reserved.{IsSeated, IsServed}
use Rattle.aeth_tables.specs.declared.granted.GrantedConnection.{GrantedConnection}
use Rattle.aeth_tables.proofs.{FindLaws.found_is, ListLaws.all_has_by}

-- ---- What a connection is made of

-- A connection is made of its seats in a plan and its grants in a group.
pub record IsMade (app : AppData) (plan : PlanData) (group conn : ℕ) (granted : GrantedConnection)
    : Type 0 where
  pub conn_is : granted.conn.0 ≡ conn
  pub connection_is : slice_get app.connections conn ≡ Some granted.connection
  pub from : line_of plan.seats granted.connection.from ≡ Some granted.from
  pub to : line_of plan.seats granted.connection.to ≡ Some granted.to
  pub fwd : grant_of plan.grants Fwd (unit_in group conn) ≡ Some granted.fwd
  pub back : grant_of plan.grants Back (unit_in group conn) ≡ Some granted.back

record IsWith (conn : ℕ) (connection : Connection) (from to : Option SeatLine)
    (fwd back : Option Grant) (granted : GrantedConnection) : Type 0 where
  conn_is : conn ≡ granted.conn.0
  connection_is : connection ≡ granted.connection
  from_is : from ≡ Some granted.from
  to_is : to ≡ Some granted.to
  fwd_is : fwd ≡ Some granted.fwd
  back_is : back ≡ Some granted.back

with_parts : (conn : ℕ) (connection : Connection) (from to : Option SeatLine)
    (fwd back : Option Grant) (granted : GrantedConnection)
    → granted_with conn connection from to fwd back ≡ Some granted
    → IsWith conn connection from to fwd back granted
with_parts conn connection None to fwd back granted is = absurd (none-some granted is)
with_parts conn connection (Some from) None fwd back granted is = absurd (none-some granted is)
with_parts conn connection (Some from) (Some to) None back granted is =
    absurd (none-some granted is)
with_parts conn connection (Some from) (Some to) (Some fwd) None granted is =
    absurd (none-some granted is)
with_parts conn connection (Some from) (Some to) (Some fwd) (Some back) granted is =
    let same = same_Some _ granted is in
    record {
      conn_is = ap (λ (g : GrantedConnection). g.conn.0) same;
      connection_is = ap (λ (g : GrantedConnection). g.connection) same;
      from_is = ap (λ (g : GrantedConnection). Some g.from) same;
      to_is = ap (λ (g : GrantedConnection). Some g.to) same;
      fwd_is = ap (λ (g : GrantedConnection). Some g.fwd) same;
      back_is = ap (λ (g : GrantedConnection). Some g.back) same;
    }

-- What is there is made of its parts.
pub made_of : (app : AppData) (plan : PlanData) (group conn : ℕ) (granted : GrantedConnection)
    → granted_of app plan group conn ≡ Some granted → IsMade app plan group conn granted
made_of app plan group conn granted is =
    let cases : (o : Option Connection) → slice_get app.connections conn ≡ o
    → option_and_then (λ connection. granted_with conn connection
    (line_of plan.seats connection.from) (line_of plan.seats connection.to)
    (grant_of plan.grants Fwd (unit_in group conn)) (grant_of plan.grants Back (unit_in group conn)))
    o ≡ Some granted → IsMade app plan group conn granted =
    elim [
      | None ↦ λ at there. absurd (none-some granted there)
      | Some connection ↦ λ at there.
          let parts = with_parts conn connection (line_of plan.seats connection.from)
          (line_of plan.seats connection.to) (grant_of plan.grants Fwd (unit_in group conn))
          (grant_of plan.grants Back (unit_in group conn)) granted there in
          record {
            conn_is = sym parts.conn_is;
            connection_is = at ∙ ap (λ (c : Connection). Some c) parts.connection_is;
            from = ap (λ (c : Connection). line_of plan.seats c.from) (sym parts.connection_is)
                ∙ parts.from_is;
            to = ap (λ (c : Connection). line_of plan.seats c.to) (sym parts.connection_is)
                ∙ parts.to_is;
            fwd = parts.fwd_is;
            back = parts.back_is;
          }
    ]
    in cases (slice_get app.connections conn) refl is

-- Where all parts are there, so is the connection.
pub made_there : (app : AppData) (plan : PlanData) (group conn : ℕ) (connection : Connection)
    (from to : SeatLine) (fwd back : Grant) → slice_get app.connections conn ≡ Some connection
    → line_of plan.seats connection.from ≡ Some from → line_of plan.seats connection.to ≡ Some to
    → grant_of plan.grants Fwd (unit_in group conn) ≡ Some fwd
    → grant_of plan.grants Back (unit_in group conn) ≡ Some back
    → granted_of app plan group conn ≡ Some (record {
      conn = record { 0 = conn };
      connection = connection;
      from = from;
      to = to;
      fwd = fwd;
      back = back;
    })
made_there app plan group conn connection from to fwd back at sends receives forward backward =
    rw (at, sends, receives, forward, backward) refl

-- ---- By an accepted plan

-- The interface of a core's seat is that of its line.
ni_of-line : (seats : List SeatLine) (core : CoreId)
    → ni_of seats core ≡ option_map (λ (line : SeatLine). line.ni) (line_of seats core)
ni_of-line [] core = refl
ni_of-line (line ∷ seats) core = elim (cases_Bool (eqb line.core.0 core.0)) [
  | inl here ↦ rw here refl
  | inr other ↦ rw other (ni_of-line seats core)
]

-- A core whose seat has an interface has a line.
pub line_from_ni : (seats : List SeatLine) (core : CoreId) (ni : NiId) → ni_of seats core ≡ Some ni
    → (line : SeatLine) × (line_of seats core ≡ Some line) × (line.ni ≡ ni)
line_from_ni seats core ni seated =
    let cases : (o : Option SeatLine) → line_of seats core ≡ o
    → option_map (λ (line : SeatLine). line.ni) o ≡ Some ni
    → (line : SeatLine) × (line_of seats core ≡ Some line) × (line.ni ≡ ni) =
    elim [
      | None ↦ λ at is. absurd (none-some ni is)
      | Some line ↦ λ at is. (line, at, same_Some line.ni ni is)
    ]
    in cases (line_of seats core) refl (sym (ni_of-line seats core) ∙ seated)

-- Where a core has a line, its interface is that of its seat.
ni_from_line : (seats : List SeatLine) (core : CoreId) (line : SeatLine) (ni : NiId)
    → line_of seats core ≡ Some line → ni_of seats core ≡ Some ni → line.ni ≡ ni
ni_from_line seats core line ni at seated =
    same_Some line.ni ni (sym (ap (option_map (λ (l : SeatLine). l.ni)) at)
    ∙ sym (ni_of-line seats core) ∙ seated)

unit_from : (unit : GroupUnit) (group conn : ℕ) → unit.conn.0 ≡ conn → unit.group.0 ≡ group
    → unit ≡ unit_in group conn
unit_from unit group conn one two =
    ap (λ (c : ℕ). unit_in unit.group.0 c) one ∙ ap (λ (g : ℕ). unit_in g conn) two

-- A grant for a side of a unit is of the unit, and of the side.
pub record IsOf (group conn : ℕ) (side : Side) (grant : Grant) : Type 0 where
  pub unit_is : grant.unit ≡ unit_in group conn
  pub side_is : grant.side ≡ side

pub of_from : (group conn : ℕ) (side : Side) (grant : Grant)
    → is_for (unit_in group conn) side grant ≡ true → IsOf group conn side grant
of_from group conn side grant passes =
    let (one, onward) = and_parts (eqb grant.unit.conn.0 conn) _ passes in
    let (two, same) = and_parts (eqb grant.unit.group.0 group) _ onward in
    record {
      unit_is = unit_from grant.unit group conn (eqb-true _ _ one) (eqb-true _ _ two);
      side_is = same_side-is grant.side side same;
    }

pub for_from : (group conn : ℕ) (side : Side) (grant : Grant) → grant.unit ≡ unit_in group conn
    → grant.side ≡ side → is_for (unit_in group conn) side grant ≡ true
for_from group conn side grant unit_is side_is =
    rw (
      eq-eqb grant.unit.conn.0 conn (ap (λ (unit : GroupUnit). unit.conn.0) unit_is),
      eq-eqb grant.unit.group.0 group (ap (λ (unit : GroupUnit). unit.group.0) unit_is),
      side_is,
    ) (same_side-itself side)

module _ (chip : ChipData) (app : AppData) (plan : PlanData) (design : IsDesign chip app plan)
  where
    pub line_seats : (core : CoreId) (line : SeatLine) → line_of plan.seats core ≡ Some line
        → IsSeated chip core line
    line_seats core line found =
        let is = found_is (λ (l : SeatLine). eqb l.core.0 core.0) plan.seats line found in
        let of = all_has_by (IsSeatOf chip app) plan.seats line design.plan_is.seats is.0 in
        record {
          core_is = ap (λ (n : ℕ). record { 0 = n }) (eqb-true line.core.0 core.0 is.1);
          ni = of.ni;
          seat = of.seat;
        }

    -- What is found for a side of a unit serves it, between the interfaces of these seats.
    pub grant_serves : (group conn : ℕ) (side : Side) (connection : Connection) (from to : SeatLine)
        (grant : Grant) → slice_get app.connections conn ≡ Some connection
        → line_of plan.seats (sender connection side) ≡ Some from
        → line_of plan.seats (receiver connection side) ≡ Some to
        → grant_of plan.grants side (unit_in group conn) ≡ Some grant
        → IsServed chip app connection side from.ni to.ni grant
    grant_serves group conn side connection from to grant at sends receives found =
        let is = found_is (is_for (unit_in group conn) side) plan.grants grant found in
        let of = of_from group conn side grant is.1 in
        let granted = all_has_by (IsGrantOf chip app (groups_of app)) plan.grants grant
        design.plan_is.grants is.0 in
        let place : grant.unit.conn.0 ≡ conn = ap (λ (unit : GroupUnit). unit.conn.0) of.unit_is in
        let path = design.accepted.paths grant is.0 in
        let slots = design.accepted.slots grant is.0 in
        let path_connection : path.connection ≡ connection =
        same_Some path.connection connection (sym path.is ∙ ap (slice_get app.connections) place ∙ at) in
        let slots_connection : slots.connection ≡ connection =
        same_Some slots.connection connection
        (sym slots.is ∙ ap (slice_get app.connections) place ∙ at) in
        let from_is : from.ni ≡ path.from =
        ni_from_line plan.seats (sender connection side) from path.from sends
        (sym (ap (λ (c : Connection). ni_of plan.seats (sender c grant.side)) path_connection
        ∙ ap (λ (s : Side). ni_of plan.seats (sender connection s)) of.side_is) ∙ path.sends) in
        let to_is : to.ni ≡ path.to =
        ni_from_line plan.seats (receiver connection side) to path.to receives
        (sym (ap (λ (c : Connection). ni_of plan.seats (receiver c grant.side)) path_connection
        ∙ ap (λ (s : Side). ni_of plan.seats (receiver connection s)) of.side_is) ∙ path.receives) in
        record {
          links = All-from_recursion (λ link. link.0 < length chip.links) grant.path granted.links;
          size = granted.size;
          starts = granted.starts;
          admissible = rw (from_is, to_is) path.admissible;
          suitable = rw (slots_connection, of.side_is) at slots.suitable;
        }
