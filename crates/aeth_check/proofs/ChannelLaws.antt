-- The rules on units, paths and slots, as tests and as facts.
use Rattle.std.proofs.Common.{◌≡◌, ◌∙◌, ℕ, Bool, true, false, cond, eqb, List, [], ◌∷◌, Option}
use Rattle.std.proofs.Common.{Some, None, Contains, slice_get, refl, sym, ap, inl, inr, eq-eqb}
use Rattle.std.proofs.Common.{eqb-true}
use Rattle.std.proofs.lemmas.{Bool.and_from, Bool.and_parts, Bool.false≢true, Option.none-some}
use Rattle.std.specs.Bool.{Decides}
use Rattle.aeth_base.specs.declared.ids.{LinkId.LinkId, NiId.NiId, Side.Side, Side.TheVariants.Fwd}
use Rattle.aeth_base.specs.declared.ids.{Side.TheVariants.Back, Unit.Unit as GroupUnit}
use Rattle.aeth_base.specs.Sides.{same_side}
use Rattle.aeth_base.proofs.Members.{Contains-cases, Contains-here, Contains-nil, Contains-there}
use Rattle.aeth_base.proofs.SideLemmas.{same_side-is, same_side-itself}
use Rattle.aeth_slots.proofs.ChoiceLemmas.{is_suitable-true, true-is_suitable}
use Rattle.aeth_chip.specs.{Chip.ChipData, Chip.IsChip, Paths.IsAdmissible}
use Rattle.aeth_app.specs.{App.AppData, declared.connection.Connection.Connection}
use Rattle.aeth_app.specs.{Connections.receiver, Connections.sender}
use Rattle.aeth_group.specs.declared.grant.{Grant.Grant, SeatLine.SeatLine}
use Rattle.aeth_group.proofs.ListLemmas.{any_from_passes, passes_from_any}
use Rattle.aeth_plan.specs.{Plan.PlanData, Accepted.HasGrant, Accepted.HasSlots, Accepted.IsOnPath}
use Rattle.aeth_plan.specs.{UnitGrants.is_for, Seated.ni_of}
use Rattle.aeth_check.specs.Channels.{first_lacking, fits_path, fits_slots, has_side, lacking_side}
use Rattle.aeth_check.specs.Channels.{leads, side_or}
use Rattle.aeth_check.proofs.RouteLaws.{is_admissible-Decides}

-- ---- Units

-- The test decides whether a unit has a grant for a side.
pub has_side-Decides : (plan : PlanData) (unit : GroupUnit) (side : Side)
    → Decides (has_side plan.grants unit side) (HasGrant plan unit side)
has_side-Decides plan unit side = (
  (λ found. let grant = passes_from_any (is_for unit side) plan.grants found in
      let (conn, onward) = and_parts (eqb grant.item.unit.conn.0 unit.conn.0) _ grant.passes in
      let (group, same) = and_parts (eqb grant.item.unit.group.0 unit.group.0) _ onward in
      let conns = eqb-true grant.item.unit.conn.0 unit.conn.0 conn in
      let groups = eqb-true grant.item.unit.group.0 unit.group.0 group in
      record {
        grant = grant.item;
        granted = grant.is_in;
        unit_is = λ i. record { conn = record { 0 = conns i }; group = record { 0 = groups i } };
        side_is = same_side-is grant.item.side side same;
      }),
  (λ has. any_from_passes (is_for unit side) plan.grants has.grant has.granted
      (and_from _ _ (eq-eqb _ _ (ap (λ (u : GroupUnit). u.conn.0) has.unit_is))
      (and_from _ _ (eq-eqb _ _ (ap (λ (u : GroupUnit). u.group.0) has.unit_is))
      (ap (λ s. same_side s side) has.side_is ∙ same_side-itself side)))),
)

or_none : (unit : GroupUnit) (side : Option Side) (later : Option (GroupUnit × Side))
    → side_or unit side later ≡ None → (side ≡ None) × (later ≡ None)
or_none unit None later none = (refl, none)
or_none unit (Some side) later none = absurd (none-some (unit, side) (sym none))

both_sides : (fwd back : Bool) → cond fwd (cond back None (Some Back)) (Some Fwd) ≡ None
    → (fwd ≡ true) × (back ≡ true)
both_sides true true none = (refl, refl)
both_sides true false none = absurd (none-some Back (sym none))
both_sides false back none = absurd (none-some Fwd (sym none))

-- Where no side is lacking, each unit has both.
pub none_lacking : (grants : List Grant) (units : List GroupUnit)
    → first_lacking grants units ≡ None → (unit : GroupUnit) (side : Side) → Contains units unit
    → has_side grants unit side ≡ true
none_lacking grants [] none unit side has = Contains-nil has
none_lacking grants (first ∷ units) none unit side has =
    let (here, later) = or_none first (lacking_side grants first) _ none in
    let (fwd, back) = both_sides (has_side grants first Fwd) (has_side grants first Back) here in
    let its : (s : Side) → has_side grants first s ≡ true = elim [ Fwd ↦ fwd | Back ↦ back ] in
    elim (Contains-cases first units unit has) [
      | inl same ↦ ap (λ u. has_side grants u side) (sym same) ∙ its side
      | inr behind ↦ none_lacking grants units later unit side behind
    ]

-- Where each unit has both, no side is lacking.
pub lacking_none : (grants : List Grant) (units : List GroupUnit)
    → ((unit : GroupUnit) (side : Side) → Contains units unit → has_side grants unit side ≡ true)
    → first_lacking grants units ≡ None
lacking_none grants [] whole = refl
lacking_none grants (first ∷ units) whole =
    let fwd = whole first Fwd (Contains-here first units) in
    let back = whole first Back (Contains-here first units) in
    let none : lacking_side grants first ≡ None = rw (fwd, back) refl in
    ap (λ o. side_or first o (first_lacking grants units)) none
    ∙ lacking_none grants units (λ unit side has.
    whole unit side (Contains-there first units unit has))

-- ---- Paths

record Leads (chip : ChipData) (detour : ℕ) (from to : Option NiId) (path : List LinkId)
    : Type 0 where
  a : NiId
  b : NiId
  from_is : from ≡ Some a
  to_is : to ≡ Some b
  admissible : IsAdmissible chip.links detour a b path

leads_from : (chip : ChipData) → IsChip chip → (detour : ℕ) (from to : Option NiId)
    (path : List LinkId) → leads chip detour from to path ≡ true → Leads chip detour from to path
leads_from chip is_chip detour None to path found = absurd (false≢true found)
leads_from chip is_chip detour (Some a) None path found = absurd (false≢true found)
leads_from chip is_chip detour (Some a) (Some b) path found = record {
  a = a;
  b = b;
  from_is = refl;
  to_is = refl;
  admissible = (is_admissible-Decides chip is_chip detour a b path).0 found;
}

path_from : (chip : ChipData) → IsChip chip → (app : AppData) (seats : List SeatLine)
    (grant : Grant) (found : Option Connection)
    → slice_get app.connections grant.unit.conn.0 ≡ found
    → fits_path chip app seats grant found ≡ true → IsOnPath chip app seats grant
path_from chip is_chip app seats grant None is fits = absurd (false≢true fits)
path_from chip is_chip app seats grant (Some connection) is fits =
    let lead = leads_from chip is_chip app.detour (ni_of seats (sender connection grant.side))
    (ni_of seats (receiver connection grant.side)) grant.path fits in record {
      connection = connection;
      is = is;
      from = lead.a;
      to = lead.b;
      sends = lead.from_is;
      receives = lead.to_is;
      admissible = lead.admissible;
    }

-- The test decides whether a grant's path leads from the sender's seat to the receiver's.
pub fits_path-Decides : (chip : ChipData) → IsChip chip → (app : AppData) (seats : List SeatLine)
    (grant : Grant)
    → Decides (fits_path chip app seats grant (slice_get app.connections grant.unit.conn.0))
    (IsOnPath chip app seats grant)
fits_path-Decides chip is_chip app seats grant = (
  path_from chip is_chip app seats grant _ refl,
  (λ on. ap (fits_path chip app seats grant) on.is
      ∙ ap (λ o. leads chip app.detour o (ni_of seats (receiver on.connection grant.side))
      grant.path) on.sends
      ∙ ap (λ o. leads chip app.detour (Some on.from) o grant.path) on.receives
      ∙ (is_admissible-Decides chip is_chip app.detour on.from on.to grant.path).1 on.admissible),
)

-- ---- Slots

slots_from : (chip : ChipData) (app : AppData) (grant : Grant) (found : Option Connection)
    → slice_get app.connections grant.unit.conn.0 ≡ found
    → fits_slots chip app grant found ≡ true → HasSlots chip app grant
slots_from chip app grant None is fits = absurd (false≢true fits)
slots_from chip app grant (Some connection) is fits = record {
  connection = connection;
  is = is;
  suitable = is_suitable-true _ _ grant.slots fits;
}

-- The test decides whether a grant's slots suffice.
pub fits_slots-Decides : (chip : ChipData) (app : AppData) (grant : Grant)
    → Decides (fits_slots chip app grant (slice_get app.connections grant.unit.conn.0))
    (HasSlots chip app grant)
fits_slots-Decides chip app grant = (
  slots_from chip app grant _ refl,
  (λ has. ap (fits_slots chip app grant) has.is ∙ true-is_suitable _ _ grant.slots has.suitable),
)
