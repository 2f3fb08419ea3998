-- What holds of every state between turns: all that is reserved is sound, each unit waits, or has
-- both its grants, or is refused, and nothing of a refused unit is left.
use Rattle.std.proofs.Common.{◌≡◌, ◌≢◌, ◌∙◌, ◌⊎◌, ◌++◌, ℕ, List, [], Contains, Option, Some, None}
use Rattle.std.proofs.Common.{not, refl, sym, ap, subst, inl, inr}
use Rattle.std.proofs.lemmas.{Bool.both_ways, Bool.cases_Bool, List.Elements.Contains-append_cases}
use Rattle.std.proofs.lemmas.{List.Elements.Contains-append_left, List.Elements.Contains-push}
use Rattle.aeth_base.proofs.Members.{Contains-cases, Contains-filter, Contains-nil, filter-Contains}
use Rattle.aeth_base.specs.declared.ids.{Side.Side, Unit.Unit as GroupUnit}
use Rattle.aeth_chip.specs.Chip.{IsChip}
use Rattle.aeth_app.specs.App.{IsApp}
use Rattle.aeth_group.specs.{Members.GroupsData, Members.units_of, declared.grant.Grant.Grant}
use Rattle.aeth_order.specs.Units.{is_unit, next_unit, without_unit}
use Rattle.aeth_order.specs.declared.keys.UnitKeys.{UnitKeys}
use Rattle.aeth_alloc.specs.{Channels.Design, Turns.State, Turns.UnitTry, Turns.after_turn}
use Rattle.aeth_alloc.specs.{Turns.after_turn_of, Turns.refusals_of, Turns.unit_tried}
use Rattle.aeth_alloc.specs.{Turns.with_unit, declared.outcome.Refused.Refused}
use Rattle.aeth_alloc.proofs.NextUnitLemmas.{Waits, is-unit, next-waits, unit-is}
use Rattle.aeth_alloc.proofs.SoundLemmas.{IsSound}
use Rattle.aeth_alloc.proofs.UnitTryLemmas.{IsFor, IsUnitTry, try-of-unit}

-- A unit is refused.
pub record IsRefusedIn (refused : List Refused) (unit : GroupUnit) : Type 0 where
  pub one : Refused
  pub listed : Contains refused one
  pub unit_is : one.unit ≡ unit

-- A unit waits, has both its grants, or is refused.
abbrev pub Fate : State → GroupUnit → Type 0
Fate state unit = Waits state.units unit
    ⊎ (((side : Side) → IsFor state.reserved.book.grants unit side)
    ⊎ IsRefusedIn state.refused unit)

-- What holds of every state between turns.
pub record IsSoundState (design : Design) (groups : GroupsData) (state : State) : Type 0 where
  pub reserved : IsSound design groups state.reserved
  pub waiting : (keys : UnitKeys) → Contains state.units.waiting keys
      → Contains (units_of groups) keys.unit
  pub unmet : (grant : Grant) → Contains state.reserved.book.grants grant
      → Waits state.units grant.unit → ⊥
  pub fates : (unit : GroupUnit) → Contains (units_of groups) unit → Fate state unit
  pub done : (one : Refused) → Contains state.refused one → Waits state.units one.unit → ⊥
  pub bare : (one : Refused) → Contains state.refused one → (grant : Grant)
      → Contains state.reserved.book.grants grant → grant.unit ≢ one.unit

-- ---- after a turn

module _ (design : Design) (groups : GroupsData) (turn : ℕ) (state : State)
    (sound : IsSoundState design groups state) (unit : GroupUnit)
    (waits : Waits state.units unit) (unit_try : UnitTry)
    (is : IsUnitTry design groups state.reserved unit unit_try) where
  abbrev new : State
  new = with_unit state unit turn unit_try

  -- A unit that waits after the turn waited before it, and isn't the one whose turn it was.
  waited : (other : GroupUnit) → Waits (without_unit state.units unit) other
      → Waits state.units other × (other ≡ unit → ⊥)
  waited other left =
      let (among, passes) = filter-Contains (λ a. not (is_unit unit a)) state.units.waiting
      left.keys left.listed in (
        record { keys = left.keys; listed = among; unit_is = left.unit_is },
        (λ same. both_ways (not (is_unit unit left.keys))
            (ap not (is-unit unit left.keys (left.unit_is ∙ same))) passes),
      )

  -- The unit whose turn it was has both its grants, or is refused.
  its-fate : (refused : Option Side) → unit_try.refused ≡ refused → Fate new unit
  its-fate None at = inr (inl (is.granted at))
  its-fate (Some side) at = inr (inr (record {
    one = record { unit = unit; side = side; turn = turn };
    listed = subst (λ (o : Option Side). Contains (state.refused ++ refusals_of unit turn o)
        (record { unit = unit; side = side; turn = turn })) (sym at)
        (Contains-push state.refused (record { unit = unit; side = side; turn = turn }));
    unit_is = refl;
  }))

  -- Each other unit waits still, or has what it had.
  fate-after : (other : GroupUnit) → Fate state other → Fate new other
  fate-after other (inl left) = elim (cases_Bool (is_unit unit left.keys)) [
    | inl here ↦
        let same : unit ≡ other = sym (unit-is unit left.keys here) ∙ left.unit_is in
        subst (Fate new) same (its-fate unit_try.refused refl)
    | inr apart ↦ inl (record {
      keys = left.keys;
      listed = Contains-filter (λ a. not (is_unit unit a)) state.units.waiting left.keys
          left.listed (ap not apart);
      unit_is = left.unit_is;
    })
  ]
  fate-after other (inr (inl both)) = inr (inl (λ side.
      let one = both side in record {
        grant = one.grant;
        listed = is.old one.grant one.listed;
        unit_is = one.unit_is;
        side_is = one.side_is;
      }))
  fate-after other (inr (inr refused)) = inr (inr (record {
    one = refused.one;
    listed = Contains-append_left state.refused (refusals_of unit turn unit_try.refused)
        refused.one refused.listed;
    unit_is = refused.unit_is;
  }))

  -- What is refused was refused before, or it is the unit whose turn it was, and has no new grant.
  abbrev Refusal : Refused → Type 0
  Refusal one = (one.unit ≡ unit) × ((grant : Grant)
      → Contains unit_try.reserved.book.grants grant
      → Contains state.reserved.book.grants grant)

  refused-now : (refused : Option Side) → unit_try.refused ≡ refused → (one : Refused)
      → Contains (refusals_of unit turn refused) one → Refusal one
  refused-now None at one has = Contains-nil has
  refused-now (Some side) at one has =
      elim (Contains-cases (record { unit = unit; side = side; turn = turn }) [] one has) [
        | inl same ↦ (ap (λ (r : Refused). r.unit) (sym same), is.kept side at)
        | inr none ↦ Contains-nil none
      ]

  refused-before : (one : Refused) → Contains new.refused one
      → Contains state.refused one ⊎ Refusal one
  refused-before one has =
      elim (Contains-append_cases state.refused (refusals_of unit turn unit_try.refused) one has) [
        | inl old ↦ inl old
        | inr now ↦ inr (refused-now unit_try.refused refl one now)
      ]

  -- The unit whose turn it was waited.
  waits-as : (other : GroupUnit) → unit ≡ other → Waits state.units other
  waits-as other same = record {
    keys = waits.keys;
    listed = waits.listed;
    unit_is = waits.unit_is ∙ same;
  }

  -- The state stays sound.
  sound-with : IsSoundState design groups new
  sound-with = record {
    reserved = is.sound;
    waiting = λ keys has. sound.waiting keys
        (filter-Contains (λ a. not (is_unit unit a)) state.units.waiting keys has).0;
    unmet = λ grant has waits.
        let was = waited grant.unit waits in
        elim (is.new grant has) [
          | inl old ↦ sound.unmet grant old was.0
          | inr same ↦ was.1 same
        ];
    fates = λ other among. fate-after other (sound.fates other among);
    done = λ one has left.
        let was = waited one.unit left in
        elim (refused-before one has) [
          | inl old ↦ sound.done one old was.0
          | inr (its, kept) ↦ was.1 its
        ];
    bare = λ one has grant among same. elim (refused-before one has) [
      | inl old ↦ elim (is.new grant among) [
        | inl earlier ↦ sound.bare one old grant earlier same
        | inr its ↦ sound.done one old (waits-as one.unit (sym its ∙ same))
      ]
      | inr (its, kept) ↦
          sound.unmet grant (kept grant among) (waits-as grant.unit (sym its ∙ sym same))
    ];
  }

module _ (design : Design) (groups : GroupsData) (chip : IsChip design.chip)
    (app : IsApp design.app) where
  by-unit : (turn : ℕ) (state : State) → IsSoundState design groups state
      → (unit : Option GroupUnit)
      → next_unit state.units state.reserved.seats.places ≡ unit
      → IsSoundState design groups (after_turn_of design turn state unit)
  by-unit turn state sound None next = sound
  by-unit turn state sound (Some unit) next =
      let waits = next-waits state.units state.reserved.seats.places unit next in
      let among : Contains (units_of groups) unit =
      subst (Contains (units_of groups)) waits.unit_is (sound.waiting waits.keys waits.listed) in
      sound-with design groups turn state sound unit waits (unit_tried design state.reserved unit)
      (try-of-unit design groups chip app state.reserved sound.reserved unit among
      (λ grant has same. sound.unmet grant has (record {
        keys = waits.keys;
        listed = waits.listed;
        unit_is = waits.unit_is ∙ sym same;
      })))

  -- A sound state stays sound in a turn.
  pub sound-after : (turn : ℕ) (state : State) → IsSoundState design groups state
      → IsSoundState design groups (after_turn design turn state)
  unfolding after_turn
  sound-after turn state sound =
      by-unit turn state sound (next_unit state.units state.reserved.seats.places) refl
