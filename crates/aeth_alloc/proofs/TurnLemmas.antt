-- What holds of every state between turns.
use Rattle.std.proofs.Common.{◌≡◌, ◌∙◌, ◌+◌, ◌++◌, ◌<◌, ℕ, zero, suc, List, Contains, Option, Some}
use Rattle.std.proofs.Common.{None, length, not, refl, sym, ap, subst, arith, option_map, slice_get}
use Rattle.std.proofs.lemmas.{List.length-map, Option.none-some, Option.same_Some}
use Rattle.aeth_group.proofs.{MemberLemmas.connections-groups_of, UnitLemmas.unit_from_units}
use Rattle.aeth_group.specs.Members.{GroupsData, groups_of, units_of}
use Rattle.aeth_base.proofs.Members.{filter-Contains, map-Contains}
use Rattle.aeth_base.specs.declared.ids.{NiId.NiId, Side.Side, Side.TheVariants.Back}
use Rattle.aeth_base.specs.declared.ids.{Side.TheVariants.Fwd, Unit.Unit as GroupUnit}
use Rattle.aeth_chip.specs.Chip.{IsChip}
use Rattle.aeth_app.specs.App.{AppData, IsApp, IsAppOf}
use Rattle.aeth_app.specs.declared.connection.Connection.{Connection}
use Rattle.aeth_app.specs.Connections.{receiver, sender}
use Rattle.aeth_order.specs.Units.{UnitsData, all_units, is_unit, keys_by, keys_of, next_unit}
use Rattle.aeth_order.specs.Units.{without_unit}
use Rattle.aeth_order.specs.declared.keys.UnitKeys.{UnitKeys}
use Rattle.aeth_seats.specs.{Places.Place, Places.lowest_free, Places.seat_of, Seats.SeatsData}
use Rattle.aeth_seats.proofs.{FirstLemmas.seats-of-app, SeatingLemmas.length-placed_on}
use Rattle.aeth_paths.specs.declared.request.Found.{Found}
use Rattle.aeth_alloc.specs.Channels.{Design, Reserved, first_for, tried, tried_by, with_found}
use Rattle.aeth_alloc.specs.Channels.{with_seat, with_seat_by}
use Rattle.aeth_alloc.specs.Turns.{State, after_back, after_fwd, after_turn, after_turn_of}
use Rattle.aeth_alloc.specs.Turns.{refusals_of, unit_tried, with_unit}
use Rattle.aeth_alloc.specs.Allocation.{after_turns, first_state}
use Rattle.aeth_alloc.specs.Holds.{IsReservedOf, IsStateOf}
use Rattle.aeth_alloc.specs.declared.outcome.Refused.{Refused}

-- One turn more.
pub after_turns-next : (design : Design) (groups : GroupsData) (n : ℕ)
    → after_turns design groups (n + 1) ≡ after_turn design (n + 1) (after_turns design groups n)
unfolding after_turns
after_turns-next design groups n = let next : n + 1 ≡ suc n = omega arith in rw next refl

-- No turn.
pub after_turns-none : (design : Design) (groups : GroupsData)
    → after_turns design groups 0 ≡ first_state design groups
unfolding after_turns
after_turns-none design groups = refl

-- ---- seats and grants

-- Seats with a core on a seat are of as many interfaces and cores, and the same cores are fixed.
pub record AreAlike (old new : SeatsData) : Type 0 where
  pub nis : new.nis ≡ old.nis
  pub fixed : new.fixed ≡ old.fixed
  pub cores : length new.places ≡ length old.places

alike-by : (seats : SeatsData) (core : ℕ) (ni : NiId) (place : Option Place)
    → AreAlike seats (with_seat_by seats core ni place)
alike-by seats core ni (Some place) = record { nis = refl; fixed = refl; cores = refl }
alike-by seats core ni None = record {
  nis = refl;
  fixed = refl;
  cores = length-placed_on seats.places core ni (lowest_free seats.places ni.0);
}

-- A core that sits on an interface leaves all else alike.
pub alike-seat : (seats : SeatsData) (core : ℕ) (ni : NiId)
    → AreAlike seats (with_seat seats core ni)
alike-seat seats core ni = alike-by seats core ni (seat_of seats.places core)

-- What is reserved stays of the design where a channel is granted.
pub reserved-found : (design : Design) (reserved : Reserved) (connection : Connection)
    (unit : GroupUnit) (side : Side) (found : Found) → IsReservedOf design reserved
    → IsReservedOf design (with_found reserved connection unit side found)
reserved-found design reserved connection unit side found is =
    let first = alike-seat reserved.seats (sender connection side).0 found.from in
    let second = alike-seat (with_seat reserved.seats (sender connection side).0 found.from)
    (receiver connection side).0 found.to in
    record {
      links = is.links;
      size = is.size;
      nis = second.nis ∙ first.nis ∙ is.nis;
      fixed = second.fixed ∙ first.fixed ∙ is.fixed;
      cores = second.cores ∙ first.cores ∙ is.cores;
    }

-- The same of a channel's try.
module _ (design : Design) (reserved new : Reserved) (unit : GroupUnit) (side : Side)
    (is : IsReservedOf design reserved) where
  by-found : (connection : Connection) (found : Option Found)
      → option_map (with_found reserved connection unit side) found ≡ Some new
      → IsReservedOf design new
  by-found connection None granted = absurd (none-some new granted)
  by-found connection (Some found) granted =
      subst (IsReservedOf design) (same_Some _ _ granted)
      (reserved-found design reserved connection unit side found is)

  by-connection : (connection : Option Connection)
      → tried_by design reserved unit side connection ≡ Some new → IsReservedOf design new
  by-connection None granted = absurd (none-some new granted)
  by-connection (Some connection) granted =
      by-found connection (first_for design reserved connection unit side) granted

pub reserved-tried : (design : Design) (reserved new : Reserved) (unit : GroupUnit) (side : Side)
    → IsReservedOf design reserved → tried design reserved unit side ≡ Some new
    → IsReservedOf design new
unfolding tried
reserved-tried design reserved new unit side is granted =
    by-connection design reserved new unit side is
    (slice_get design.app.connections unit.conn.0) granted

-- The same of a unit.
reserved-back : (design : Design) (before : Reserved) (back : Option Reserved)
    → IsReservedOf design before
    → ((both : Reserved) → back ≡ Some both → IsReservedOf design both)
    → IsReservedOf design (after_back before back).reserved
reserved-back design before None is both = is
reserved-back design before (Some new) is both = both new refl

reserved-fwd : (design : Design) (before : Reserved) (unit : GroupUnit) (fwd : Option Reserved)
    → IsReservedOf design before
    → ((one : Reserved) → fwd ≡ Some one → IsReservedOf design one)
    → IsReservedOf design (after_fwd design before unit fwd).reserved
reserved-fwd design before unit None is one = is
reserved-fwd design before unit (Some new) is one =
    reserved-back design before (tried design new unit Back) is
    (λ both. reserved-tried design new both unit Back (one new refl))

pub reserved-unit : (design : Design) (before : Reserved) (unit : GroupUnit)
    → IsReservedOf design before
    → IsReservedOf design (unit_tried design before unit).reserved
reserved-unit design before unit is =
    reserved-fwd design before unit (tried design before unit Fwd) is
    (λ one. reserved-tried design before one unit Fwd is)

-- ---- turns

-- A turn in which no unit waits.
pub turn-none : (design : Design) (turn : ℕ) (state : State)
    → next_unit state.units state.reserved.seats.places ≡ None
    → state ≡ after_turn design turn state
unfolding after_turn
turn-none design turn state next = ap (after_turn_of design turn state) (sym next)

-- What the steps of a unit's turn come to.
pub turn-steps : (design : Design) (turn : ℕ) (before state : State) (unit : GroupUnit)
    (reserved : Reserved) (units : UnitsData) (refused : List Refused) (side : Option Side)
    → before ≡ state → next_unit before.units before.reserved.seats.places ≡ Some unit
    → unit_tried design before.reserved unit ≡ record { reserved = reserved; refused = side }
    → units ≡ without_unit before.units unit
    → refused ≡ before.refused ++ refusals_of unit turn side
    → record { reserved = reserved; units = units; refused = refused } ≡ after_turn design turn state
unfolding after_turn
turn-steps design turn before state unit reserved units refused side view next comes left refusals =
    (λ i. record { reserved = reserved; units = left i; refused = refusals i })
    ∙ ap (with_unit before unit turn) (sym comes)
    ∙ ap (after_turn_of design turn before) (sym next) ∙ ap (after_turn design turn) view

-- ---- states

state-by : (design : Design) (turn : ℕ) (state : State) (unit : Option GroupUnit)
    → IsStateOf design state → IsStateOf design (after_turn_of design turn state unit)
state-by design turn state None is = is
state-by design turn state (Some unit) is = record {
  reserved = reserved-unit design state.reserved unit is.reserved;
  units = λ keys has. is.units keys
      (filter-Contains (λ a. not (is_unit unit a)) state.units.waiting keys has).0;
}

-- A state stays one of the design where a unit takes its turn.
pub state-after : (design : Design) (turn : ℕ) (state : State) → IsStateOf design state
    → IsStateOf design (after_turn design turn state)
unfolding after_turn
state-after design turn state is =
    state-by design turn state (next_unit state.units state.reserved.seats.places) is

-- The keys of a unit are its own.
keys-unit : (slots : ℕ) (unit : GroupUnit) (connection : Option Connection)
    → (keys_by slots unit connection).unit ≡ unit
keys-unit slots unit None = refl
keys-unit slots unit (Some connection) = refl

pub own-unit : (app : AppData) (unit : GroupUnit) → (keys_of app unit).unit ≡ unit
own-unit app unit = keys-unit app.slots unit (slice_get app.connections unit.conn.0)

-- All units are of connections of the application.
waiting-below : (app : AppData) (groups : GroupsData) (keys : UnitKeys) → IsApp app
    → groups ≡ groups_of app → Contains (all_units app groups) keys
    → keys.unit.conn.0 < length app.connections
unfolding all_units
waiting-below app groups keys is are has =
    let (unit, same, among) = map-Contains (keys_of app) (units_of groups) keys has in
    let low = (unit_from_units groups unit among).connection in
    let count : groups.connections ≡ length app.connections =
    ap (λ (g : GroupsData). g.connections) are ∙ connections-groups_of app in
    let own : keys.unit ≡ unit =
    ap (λ (k : UnitKeys). k.unit) (sym same) ∙ own-unit app unit in
    subst (λ (u : GroupUnit). u.conn.0 < length app.connections) (sym own)
    (subst (λ n. unit.conn.0 < n) count low)

-- The state before the first turn is one.
pub state-first : (design : Design) (groups : GroupsData) → IsChip design.chip → IsApp design.app
    → IsAppOf design.chip design.app → groups ≡ groups_of design.app
    → IsStateOf design (first_state design groups)
state-first design groups chip app of are =
    let seats = seats-of-app design.chip design.app chip app of in
    record {
      reserved = record {
        links = refl;
        size = refl;
        nis = refl;
        fixed = refl;
        cores = sym seats.cores ∙ length-map design.app.cores (λ core. core.fixed);
      };
      units = λ keys has. waiting-below design.app groups keys app are has;
    }

-- So is that after any number of turns.
pub state-turns : (design : Design) (groups : GroupsData) (n : ℕ) → IsChip design.chip
    → IsApp design.app → IsAppOf design.chip design.app → groups ≡ groups_of design.app
    → IsStateOf design (after_turns design groups n)
unfolding after_turns
state-turns design groups zero chip app of are = state-first design groups chip app of are
state-turns design groups (suc n) chip app of are =
    state-after design (suc n) (after_turns design groups n)
    (state-turns design groups n chip app of are)
