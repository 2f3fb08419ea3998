-- Each unit of which a channel has no candidate in its turn is refused.
use Rattle.std.proofs.Common.{◌≡◌, ◌∙◌, ◌<◌, ◌++◌, ℕ, zero, suc, Contains, Option, Some, None}
use Rattle.std.proofs.Common.{length, refl, sym, ap, subst, inl, inr, arith, slice_get}
use Rattle.std.proofs.lemmas.{Bool.cases_eq, List.Elements.Contains-append_left}
use Rattle.std.proofs.lemmas.{List.Elements.Contains-push, Option.same_Some}
use Rattle.aeth_base.specs.declared.ids.Side.{Side, TheVariants.Back, TheVariants.Fwd}
use Rattle.aeth_base.specs.declared.ids.Unit.{Unit as GroupUnit}
use Rattle.aeth_chip.specs.Chip.{IsChip}
use Rattle.aeth_app.specs.{App.IsApp, App.IsAppOf, declared.connection.Connection.Connection}
use Rattle.aeth_book.specs.Book.{IsBook}
use Rattle.aeth_group.specs.Members.{GroupsData, groups_of, units_of}
use Rattle.aeth_group.specs.declared.grant.Grant.{Grant}
use Rattle.aeth_order.specs.Units.{next_unit}
use Rattle.aeth_alloc.specs.{Allocation.after_turns, Allocation.last_state, Channels.Design}
use Rattle.aeth_alloc.specs.{Channels.Reserved, Channels.tried, Holds.IsCandidateFor}
use Rattle.aeth_alloc.specs.{Refusals.HasNoCandidate, Refusals.IsBeforeTry, Refusals.LacksCandidate}
use Rattle.aeth_alloc.specs.{Refusals.RefusesExactly, Turns.State, Turns.after_back}
use Rattle.aeth_alloc.specs.{Turns.after_fwd, Turns.after_turn, Turns.after_turn_of}
use Rattle.aeth_alloc.specs.{Turns.refusals_of, Turns.unit_tried, declared.outcome.Refused.Refused}
use Rattle.aeth_alloc.proofs.{LastStateLemmas.sound-turns, NextUnitLemmas.next-waits}
use Rattle.aeth_alloc.proofs.{RefusalLemmas.refused-last, SoundLemmas.IsSound}
use Rattle.aeth_alloc.proofs.{TriedLemmas.tried-some, UnitTryLemmas.sound-one}

-- A channel that has no candidate isn't granted.
not-granted : (design : Design) (reserved : Reserved) → IsChip design.chip → IsBook reserved.book
    → reserved.book.links ≡ design.chip.links → (unit : GroupUnit) (side : Side)
    (connection : Connection) → slice_get design.app.connections unit.conn.0 ≡ Some connection
    → HasNoCandidate design reserved connection unit side → (answer : Option Reserved)
    → tried design reserved unit side ≡ answer → answer ≡ None
not-granted design reserved chip book links unit side connection is none None at = refl
not-granted design reserved chip book links unit side connection is none (Some new) at =
    let granted = tried-some design reserved chip book links unit side new at in
    absurd (none granted.found (subst (λ (one : Connection).
    IsCandidateFor design reserved one unit side granted.found)
    (same_Some granted.connection connection (sym granted.is ∙ is)) granted.candidate))

module _ (design : Design) (groups : GroupsData) (chip : IsChip design.chip)
    (app : IsApp design.app) (before : Reserved) (sound : IsSound design groups before)
    (unit : GroupUnit) (among : Contains (units_of groups) unit)
    (free : (grant : Grant) → Contains before.book.grants grant → grant.unit ≡ unit → ⊥)
    (connection : Connection) (is : slice_get design.app.connections unit.conn.0 ≡ Some connection)
  where
    -- The unit is refused for a side whose channel has no candidate.
    refused-for : (side : Side) (reserved : Reserved)
        → IsBeforeTry design before unit side reserved
        → HasNoCandidate design reserved connection unit side
        → (unit_tried design before unit).refused ≡ Some side
    refused-for Fwd reserved same none =
        let here =
        subst (λ (r : Reserved). HasNoCandidate design r connection unit Fwd) same none in
        ap (λ (o : Option Reserved). (after_fwd design before unit o).refused)
        (not-granted design before chip sound.book sound.of.links unit Fwd connection is here
        _ refl)
    refused-for Back one granted none =
        let its = sound-one design groups chip app before sound unit among free one granted in
        ap (λ (o : Option Reserved). (after_fwd design before unit o).refused) granted
        ∙ ap (λ (o : Option Reserved). (after_back before o).refused)
        (not-granted design one chip its.book its.of.links unit Back connection is none _ refl)

-- ---- the refusals of turns

-- What is refused stays so.
kept-by : (design : Design) (turn : ℕ) (state : State) (unit : Option GroupUnit) (refused : Refused)
    → Contains state.refused refused
    → Contains (after_turn_of design turn state unit).refused refused
kept-by design turn state None refused has = has
kept-by design turn state (Some unit) refused has =
    Contains-append_left state.refused
    (refusals_of unit turn (unit_tried design state.reserved unit).refused) refused has

kept-after : (design : Design) (turn : ℕ) (state : State) (refused : Refused)
    → Contains state.refused refused → Contains (after_turn design turn state).refused refused
unfolding after_turn
kept-after design turn state refused has =
    kept-by design turn state (next_unit state.units state.reserved.seats.places) refused has

-- The next unit is listed with its side, where it is refused.
listed-after : (design : Design) (turn : ℕ) (state : State) (unit : GroupUnit) (side : Side)
    → next_unit state.units state.reserved.seats.places ≡ Some unit
    → (unit_tried design state.reserved unit).refused ≡ Some side
    → Contains (after_turn design turn state).refused
    (record { unit = unit; side = side; turn = turn })
unfolding after_turn
listed-after design turn state unit side next at =
    let refused : Refused = record { unit = unit; side = side; turn = turn } in
    subst (λ (o : Option GroupUnit). Contains (after_turn_of design turn state o).refused refused)
    (sym next)
    (subst (λ (o : Option Side). Contains (state.refused ++ refusals_of unit turn o) refused)
    (sym at)
    (Contains-push state.refused refused))

module _ (design : Design) (chip : IsChip design.chip) (app : IsApp design.app)
    (of : IsAppOf design.chip design.app) (refused : Refused)
    (lacks : LacksCandidate design (groups_of design.app) refused) where
  abbrev groups : GroupsData
  groups = groups_of design.app

  abbrev state : ℕ → State
  state turns = after_turns design groups turns

  -- In its turn.
  listed-now : Contains (state (suc lacks.before)).refused refused
  unfolding after_turns
  listed-now =
      let was = state lacks.before in
      let sound = sound-turns design chip app of lacks.before in
      let waits = next-waits was.units was.reserved.seats.places refused.unit lacks.next in
      let among : Contains (units_of groups) refused.unit =
      subst (Contains (units_of groups)) waits.unit_is
      (sound.waiting waits.keys waits.listed) in
      let at = refused-for design groups chip app was.reserved sound.reserved refused.unit among
      (λ grant has same. sound.unmet grant has (record {
        keys = waits.keys;
        listed = waits.listed;
        unit_is = waits.unit_is ∙ sym same;
      })) lacks.connection lacks.is refused.side lacks.reserved lacks.tried lacks.none in
      let turn : suc lacks.before ≡ refused.turn = omega (arith, lacks.turn) in
      subst (λ n. Contains (state (suc lacks.before)).refused
      (record { unit = refused.unit; side = refused.side; turn = n })) turn
      (listed-after design (suc lacks.before) was refused.unit refused.side lacks.next at)

  -- And from then on.
  listed-since : (turns : ℕ) → lacks.before < turns → Contains (state turns).refused refused
  unfolding after_turns
  listed-since zero later = absurd (omega arith)
  listed-since (suc turns) later = elim (cases_eq lacks.before turns) [
    | inl now ↦ subst (λ n. Contains (state (suc n)).refused refused) now listed-now
    | inr other ↦ kept-after design (suc turns) (state turns) refused
        (listed-since turns (omega (arith, other)))
  ]

-- Exactly those are refused of which a channel has no candidate in its turn.
pub refuses-exactly : (design : Design) → IsChip design.chip → IsApp design.app
    → IsAppOf design.chip design.app
    → RefusesExactly design (groups_of design.app)
    (last_state design (groups_of design.app)).refused
refuses-exactly design chip app of = λ refused. (
  (λ has. let is = refused-last design chip app of refused has in record {
    before = is.before;
    turn = is.turn;
    within = is.within;
    next = is.next;
    connection = is.connection;
    is = is.is;
    reserved = is.reserved;
    tried = is.tried;
    none = is.none;
  }),
  (λ lacks. listed-since design chip app of refused lacks (length (units_of (groups_of design.app)))
      lacks.within),
)
