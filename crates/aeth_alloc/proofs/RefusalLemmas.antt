-- Each refusal is that of its turn, and the side for which the unit is refused had no candidate.
use Rattle.std.proofs.Common.{◌≡◌, ◌∙◌, ◌<◌, ◌≤◌, ◌+◌, ℕ, zero, suc, [], Contains, Option, Some}
use Rattle.std.proofs.Common.{None, length, refl, sym, ap, subst, inl, inr, arith, slice_get}
use Rattle.std.proofs.lemmas.List.Elements.{Contains-append_cases}
use Rattle.std.proofs.lemmas.Option.{none-some, same_Some, slice_get_cases}
use Rattle.aeth_base.proofs.Members.{Contains-cases, Contains-nil}
use Rattle.aeth_base.specs.declared.ids.Side.{Side, TheVariants.Back, TheVariants.Fwd}
use Rattle.aeth_base.specs.declared.ids.Unit.{Unit as GroupUnit}
use Rattle.aeth_chip.specs.Chip.{IsChip}
use Rattle.aeth_app.specs.{App.IsApp, App.IsAppOf, declared.connection.Connection.Connection}
use Rattle.aeth_group.specs.Members.{GroupsData, groups_of, units_of}
use Rattle.aeth_group.specs.declared.grant.Grant.{Grant}
use Rattle.aeth_group.proofs.{MemberLemmas.connections-groups_of, UnitLemmas.unit_from_units}
use Rattle.aeth_order.specs.Units.{next_unit}
use Rattle.aeth_alloc.specs.Allocation.{after_turns, last_state}
use Rattle.aeth_alloc.specs.Channels.{Design, Reserved, tried}
use Rattle.aeth_alloc.specs.Refusals.{HasNoCandidate, IsBeforeTry, IsRefused}
use Rattle.aeth_alloc.specs.Turns.{State, after_back, after_fwd, after_turn, after_turn_of}
use Rattle.aeth_alloc.specs.Turns.{refusals_of, unit_tried}
use Rattle.aeth_alloc.specs.declared.outcome.Refused.{Refused}
use Rattle.aeth_alloc.proofs.{LastStateLemmas.sound-turns, NextUnitLemmas.next-waits}
use Rattle.aeth_alloc.proofs.{SoundLemmas.IsSound, TriedLemmas.tried-none}
use Rattle.aeth_alloc.proofs.{TurnLemmas.after_turns-next, UnitTryLemmas.sound-one}

-- What was reserved when a side of a unit was tried, which had no candidate.
record IsWithout (design : Design) (before : Reserved) (connection : Connection) (unit : GroupUnit)
    (side : Side) : Type 0 where
  reserved : Reserved
  tried : IsBeforeTry design before unit side reserved
  none : HasNoCandidate design reserved connection unit side

module _ (design : Design) (groups : GroupsData) (chip : IsChip design.chip)
    (app : IsApp design.app) (before : Reserved) (sound : IsSound design groups before)
    (unit : GroupUnit) (among : Contains (units_of groups) unit)
    (free : (grant : Grant) → Contains before.book.grants grant → grant.unit ≡ unit → ⊥)
    (connection : Connection) (is : slice_get design.app.connections unit.conn.0 ≡ Some connection)
  where
    back-without : (one : Reserved) → tried design before unit Fwd ≡ Some one
        → (back : Option Reserved) → tried design one unit Back ≡ back → (side : Side)
        → (after_back before back).refused ≡ Some side
        → IsWithout design before connection unit side
    back-without one granted None none side refused =
        let its = sound-one design groups chip app before sound unit among free one granted in
        subst (IsWithout design before connection unit) (same_Some Back side refused) (record {
          reserved = one;
          tried = granted;
          none = tried-none design one chip its.book its.of.links unit Back connection is none;
        })
    back-without one granted (Some both) none side refused = absurd (none-some side refused)

    fwd-without : (fwd : Option Reserved) → tried design before unit Fwd ≡ fwd → (side : Side)
        → (after_fwd design before unit fwd).refused ≡ Some side
        → IsWithout design before connection unit side
    fwd-without None none side refused =
        subst (IsWithout design before connection unit) (same_Some Fwd side refused) (record {
          reserved = before;
          tried = refl;
          none = tried-none design before chip sound.book sound.of.links unit Fwd connection is none;
        })
    fwd-without (Some one) granted side refused =
        back-without one granted (tried design one unit Back) refl side refused

    -- A side for which a unit is refused had no candidate.
    unit-without : (side : Side) → (unit_tried design before unit).refused ≡ Some side
        → IsWithout design before connection unit side
    unit-without side refused = fwd-without (tried design before unit Fwd) refl side refused

-- ---- what is kept

kept-back : (before : Reserved) (back : Option Reserved) (side : Side)
    → (after_back before back).refused ≡ Some side → (after_back before back).reserved ≡ before
kept-back before None side refused = refl
kept-back before (Some both) side refused = absurd (none-some side refused)

-- What comes of a unit that is refused leaves what was reserved.
pub kept-fwd : (design : Design) (before : Reserved) (unit : GroupUnit) (fwd : Option Reserved)
    (side : Side) → (after_fwd design before unit fwd).refused ≡ Some side
    → (after_fwd design before unit fwd).reserved ≡ before
kept-fwd design before unit None side refused = refl
kept-fwd design before unit (Some one) side refused =
    kept-back before (tried design one unit Back) side refused

-- The turn of a unit that is refused leaves all that is reserved as it was.
kept-turn : (design : Design) (turn : ℕ) (state : State) (unit : GroupUnit) (side : Side)
    → next_unit state.units state.reserved.seats.places ≡ Some unit
    → (unit_tried design state.reserved unit).refused ≡ Some side
    → (after_turn design turn state).reserved ≡ state.reserved
unfolding after_turn
kept-turn design turn state unit side next refused =
    ap (λ (o : Option GroupUnit). (after_turn_of design turn state o).reserved) next
    ∙ kept-fwd design state.reserved unit (tried design state.reserved unit Fwd) side refused

-- A unit is of a connection.
unit-connection : (design : Design) (unit : GroupUnit)
    → Contains (units_of (groups_of design.app)) unit
    → (connection : Connection)
    × (slice_get design.app.connections unit.conn.0 ≡ Some connection)
unit-connection design unit among =
    let low = (unit_from_units (groups_of design.app) unit among).connection in
    let count = connections-groups_of design.app in
    elim ((slice_get_cases design.app.connections unit.conn.0).1) [
      | inl found ↦ (found.0, found.2)
      | inr past ↦ absurd (omega (arith, low, count, past.0))
    ]

module _ (design : Design) (chip : IsChip design.chip) (app : IsApp design.app)
    (of : IsAppOf design.chip design.app) where
  abbrev groups : GroupsData
  groups = groups_of design.app

  abbrev state : ℕ → State
  state turns = after_turns design groups turns

  -- A unit that was refused in a turn is refused rightly.
  refused-now : (before : ℕ) → before < length (units_of groups) → (unit : GroupUnit)
      → next_unit (state before).units (state before).reserved.seats.places ≡ Some unit
      → (side : Option Side) → (unit_tried design (state before).reserved unit).refused ≡ side
      → (refused : Refused) → Contains (refusals_of unit (suc before) side) refused
      → IsRefused design groups refused
  refused-now before within unit next None at refused has = Contains-nil has
  refused-now before within unit next (Some side) at refused has =
      elim (Contains-cases (record { unit = unit; side = side; turn = suc before }) [] refused has) [
        | inl same ↦
            let sound = sound-turns design chip app of before in
            let waits = next-waits (state before).units (state before).reserved.seats.places unit
            next in
            let among : Contains (units_of groups) unit =
            subst (Contains (units_of groups)) waits.unit_is
            (sound.waiting waits.keys waits.listed) in
            let (connection, is) = unit-connection design unit among in
            let without = unit-without design groups chip app (state before).reserved sound.reserved
            unit among (λ grant has same. sound.unmet grant has (record {
              keys = waits.keys;
              listed = waits.listed;
              unit_is = waits.unit_is ∙ sym same;
            })) connection is side at in
            subst (IsRefused design groups) same (record {
              before = before;
              turn = omega arith;
              within = within;
              next = next;
              connection = connection;
              is = is;
              reserved = without.reserved;
              tried = without.tried;
              none = without.none;
              kept = ap (λ (s : State). s.reserved) (after_turns-next design groups before)
                  ∙ kept-turn design (before + 1) (state before) unit side next at;
            })
        | inr none ↦ Contains-nil none
      ]

  -- What is refused after a turn was refused before it, or in it.
  refused-after : (before : ℕ) → before < length (units_of groups)
      → ((refused : Refused) → Contains (state before).refused refused
      → IsRefused design groups refused)
      → (unit : Option GroupUnit)
      → next_unit (state before).units (state before).reserved.seats.places ≡ unit
      → (refused : Refused)
      → Contains (after_turn_of design (suc before) (state before) unit).refused refused
      → IsRefused design groups refused
  refused-after before within earlier None next refused has = earlier refused has
  refused-after before within earlier (Some unit) next refused has =
      let side = (unit_tried design (state before).reserved unit).refused in
      elim (Contains-append_cases (state before).refused (refusals_of unit (suc before) side) refused
      has) [
        | inl old ↦ earlier refused old
        | inr now ↦ refused-now before within unit next side refl refused now
      ]

  -- Each refusal after some turns is right.
  pub refused-turns : (turns : ℕ) → turns ≤ length (units_of groups) → (refused : Refused)
      → Contains (state turns).refused refused → IsRefused design groups refused
  unfolding after_turns after_turn
  refused-turns zero few refused has = Contains-nil has
  refused-turns (suc before) few refused has =
      refused-after before (omega arith) (refused-turns before (omega arith))
      (next_unit (state before).units (state before).reserved.seats.places) refl refused has

  -- Each refusal of the last state is.
  pub refused-last : (refused : Refused) → Contains (last_state design groups).refused refused
      → IsRefused design groups refused
  refused-last refused has =
      refused-turns (length (units_of groups)) (omega arith) refused has
