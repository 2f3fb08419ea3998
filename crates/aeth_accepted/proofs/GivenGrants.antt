-- The grants of a design are those of the connections of its use cases.
use Rattle.std.proofs.Common.{◌≡◌, ◌∙◌, ◌<◌, ℕ, Bool, true, false, Option, Some, None, Contains}
use Rattle.std.proofs.Common.{slice_get, length, refl, sym, ap, inl, inr, arith, map, unwrap_or}
use Rattle.std.proofs.lemmas.{Bool.cases_lt, Bool.false≢true, List.FromFn.length-map-range_with_len}
use Rattle.std.proofs.lemmas.{Option.get_or_from_slice_get, Option.slice_get_past}
use Rattle.std.specs.List.{range_with_len}
use Rattle.aeth_base.specs.declared.ids.Channel.{Channel}
use Rattle.aeth_base.specs.declared.ids.Side.{Side, TheVariants.Back, TheVariants.Fwd}
use Rattle.aeth_base.proofs.{Members.Contains-filter, Members.map-Contains, Ranges.Contains-range}
use Rattle.aeth_app.specs.App.{AppData, has_connection, is_marked}
use Rattle.aeth_group.specs.Members.{UseGroupData, group_at, groups_of, has_at, use_group, use_has}
use Rattle.aeth_group.specs.declared.grant.Grant.{Grant}
use Rattle.aeth_group.proofs.MemberLemmas.{connections-groups_of, length-groups_of}
use Rattle.aeth_report.specs.Design.{connection_at, grant_at, no_connection, no_grant}
use Rattle.aeth_tables.specs.Granted.{Granted, grant_of, grant_on, granted_in, unit_in}
use Rattle.aeth_tables.proofs.{ListLaws.has_place, ReservedLaws.IsMade, UseLaws.conns_of}
use Rattle.aeth_tables.proofs.{UseLaws.made_in}
use Rattle.aeth_accepted.specs.Inputs.{AreAccepted, Inputs, design_of}

-- The grant that is found is the design's.
grant-found : (inputs : Inputs) (group conn : ℕ) (side : Side) (grant : Grant)
    → grant_of inputs.plan.grants side (unit_in group conn) ≡ Some grant
    → grant_at (design_of inputs) (record { conn = record { 0 = conn }; side = side }) group ≡ grant
grant-found inputs group conn side grant found =
    let channel : Channel = record { conn = record { 0 = conn }; side = side } in
    let missing = no_grant inputs.chip.slots channel group in
    ap (λ (o : Option Grant). unwrap_or o missing) found

-- The grants of what is made of its parts are those of its sides.
made-grants : (inputs : Inputs) (group conn : ℕ) (granted : Granted)
    → IsMade inputs.app inputs.plan group conn granted → (side : Side)
    → grant_of inputs.plan.grants side (unit_in group conn) ≡ Some (grant_on granted side)
made-grants inputs group conn granted made Fwd = made.fwd
made-grants inputs group conn granted made Back = made.back

-- The connection of a use case with its grants is what the design says.
pub record IsGiven (inputs : Inputs) (group conn : ℕ) (granted : Granted) : Type 0 where
  pub conn_is : granted.conn.0 ≡ conn
  pub connection_is : connection_at (design_of inputs) (record { 0 = conn }) ≡ granted.connection
  pub grants_are : (side : Side)
      → grant_at (design_of inputs) (record { conn = record { 0 = conn }; side = side }) group
      ≡ grant_on granted side

pub given_from_made : (inputs : Inputs) (group conn : ℕ) (granted : Granted)
    → IsMade inputs.app inputs.plan group conn granted → IsGiven inputs group conn granted
given_from_made inputs group conn granted made = record {
  conn_is = made.conn_is;
  connection_is = get_or_from_slice_get inputs.app.connections conn granted.connection no_connection
      made.connection_is;
  grants_are = λ side. grant-found inputs group conn side (grant_on granted side)
      (made-grants inputs group conn granted made side);
}

-- A use case that has a connection is one of the application's.
pub use-known : (inputs : Inputs) (u c : ℕ) → has_at (groups_of inputs.app) u c ≡ true
    → u < length inputs.app.uses
use-known inputs u c has =
    let groups = groups_of inputs.app in
    elim (cases_lt u (length groups.uses)) [
      | inl less ↦ omega (arith, length-groups_of inputs.app)
      | inr past ↦ absurd (false≢true
          (sym (ap (λ (o : Option UseGroupData). use_has o c) (slice_get_past groups.uses u past)) ∙ has))
    ]

-- Marks are of the application's connections.
marks-known : (app : AppData) (k c : ℕ) → is_marked (use_group app k).has c ≡ true
    → c < length app.connections
marks-known app k c marked =
    let connections = range_with_len 0 (length app.connections) in
    let marks = map (has_connection app.uses k) connections in
    let count : length marks ≡ length app.connections =
    length-map-range_with_len (has_connection app.uses k) 0 (length app.connections) in
    elim (cases_lt c (length app.connections)) [
      | inl less ↦ less
      | inr past ↦ absurd (false≢true
          (sym (ap (λ (o : Option Bool). unwrap_or o false) (slice_get_past marks c (omega (arith, count))))
          ∙ marked))
    ]

-- A connection of a use case is one of the application's.
pub connection-known : (inputs : Inputs) (u c : ℕ) → has_at (groups_of inputs.app) u c ≡ true
    → c < length inputs.app.connections
unfolding groups_of
connection-known inputs u c has =
    let app = inputs.app in
    let uses = range_with_len 0 (length app.uses) in
    let cases : (o : Option UseGroupData) → slice_get (groups_of app).uses u ≡ o
    → use_has o c ≡ true → c < length app.connections =
    elim [
      | None ↦ λ at none. absurd (false≢true none)
      | Some one ↦ λ at marked.
          let (k, same, inside) = map-Contains (use_group app) uses one
          (has_place (groups_of app).uses u one at) in
          marks-known app k c (ap (λ (x : UseGroupData). is_marked x.has c) same ∙ marked)
    ]
    in cases (slice_get (groups_of app).uses u) refl has

-- Each connection of a use case is given.
pub record IsGivenIn (inputs : Inputs) (u conn : ℕ) : Type 0 where
  pub granted : Granted
  pub is_in : Contains (granted_in inputs.app (groups_of inputs.app) inputs.plan u) granted
  pub given : IsGiven inputs (group_at (groups_of inputs.app) u) conn granted

pub given_in : (inputs : Inputs) → AreAccepted inputs → (u conn : ℕ)
    → has_at (groups_of inputs.app) u conn ≡ true → IsGivenIn inputs u conn
given_in inputs accepted u conn has =
    let app = inputs.app in
    let groups = groups_of app in
    let known = use-known inputs u conn has in
    let below = connection-known inputs u conn has in
    let numbers = range_with_len 0 groups.connections in
    let inside = Contains-filter (has_at groups u) numbers conn (Contains-range 0 groups.connections
    conn (omega arith) (omega (arith, below, connections-groups_of app))) has in
    let (granted, is, is_in) = map-Contains (λ (one : Granted). one.conn.0)
    (granted_in app groups inputs.plan u) conn
    (rw (conns_of inputs.chip app inputs.plan accepted.design u known) inside) in
    let (number, of_use, made) = made_in inputs.chip app inputs.plan accepted.design u known granted
    is_in in
    let same : number ≡ conn = sym made.conn_is ∙ is in
    record {
      granted = granted;
      is_in = is_in;
      given = rw same at (given_from_made inputs (group_at groups u) number granted made);
    }
