-- The state before the first turn is sound, so is that after any number of turns, and after the last
-- turn none waits.
use Rattle.std.proofs.Common.{◌≡◌, ◌∙◌, ◌≤◌, ◌-◌, ℕ, zero, suc, List, [], ◌∷◌, Contains, Option}
use Rattle.std.proofs.Common.{Some, None, length, refl, sym, ap, subst, inl, arith, AllPairs}
use Rattle.std.proofs.lemmas.List.{length-map}
use Rattle.aeth_base.proofs.Members.{Contains-map, Contains-nil, map-Contains}
use Rattle.aeth_base.specs.declared.ids.Unit.{Unit as GroupUnit}
use Rattle.aeth_chip.specs.Chip.{IsChip}
use Rattle.aeth_app.specs.App.{AppData, IsApp, IsAppOf}
use Rattle.aeth_group.specs.Members.{GroupsData, groups_of, units_of}
use Rattle.aeth_group.proofs.MemberLemmas.{is_groups-groups_of}
use Rattle.aeth_order.specs.Units.{all_units, keys_of, next_unit}
use Rattle.aeth_order.specs.declared.keys.UnitKeys.{UnitKeys}
use Rattle.aeth_seats.proofs.FirstLemmas.{seats-of-app}
use Rattle.aeth_plan.specs.Making.{AreApart}
use Rattle.aeth_alloc.specs.{Allocation.after_turns, Allocation.first_state, Allocation.last_state}
use Rattle.aeth_alloc.specs.{Channels.Design, Turns.State, Turns.after_turn, Turns.after_turn_of}
use Rattle.aeth_alloc.proofs.NextUnitLemmas.{fewer-wait, next-waits, none-waits}
use Rattle.aeth_alloc.proofs.StateLemmas.{IsSoundState, sound-after}
use Rattle.aeth_alloc.proofs.TurnLemmas.{own-unit, state-first}
use Rattle.aeth_alloc.proofs.WithGrantLemmas.{first-book}

-- All units wait, and no others.
unit-waits : (app : AppData) (groups : GroupsData) (unit : GroupUnit)
    → Contains (units_of groups) unit → Contains (all_units app groups) (keys_of app unit)
unfolding all_units
unit-waits app groups unit has = Contains-map (keys_of app) (units_of groups) unit has

waits-unit : (app : AppData) (groups : GroupsData) (keys : UnitKeys)
    → Contains (all_units app groups) keys → Contains (units_of groups) keys.unit
unfolding all_units
waits-unit app groups keys has =
    let (unit, same, among) = map-Contains (keys_of app) (units_of groups) keys has in
    subst (Contains (units_of groups)) (sym (own-unit app unit) ∙ ap (λ (k : UnitKeys). k.unit) same)
    among

length-units : (app : AppData) (groups : GroupsData)
    → length (all_units app groups) ≡ length (units_of groups)
unfolding all_units
length-units app groups = length-map (units_of groups) (keys_of app)

-- The state before the first turn is sound.
first-sound : (design : Design) → IsChip design.chip → IsApp design.app
    → IsAppOf design.chip design.app
    → IsSoundState design (groups_of design.app) (first_state design (groups_of design.app))
first-sound design chip app of =
    let groups : GroupsData = groups_of design.app in
    let are = is_groups-groups_of design.app app.connections app.uses in
    record {
      reserved = record {
        of = (state-first design groups chip app of refl).reserved;
        groups_are = refl;
        book = first-book design.chip groups chip are.uses;
        seats = seats-of-app design.chip design.app chip app of;
        granted = λ grant has. Contains-nil has;
        apart = λ i j d less low. absurd (omega arith);
      };
      waiting = waits-unit design.app groups;
      unmet = λ grant has waits. Contains-nil has;
      fates = λ unit among. inl (record {
        keys = keys_of design.app unit;
        listed = unit-waits design.app groups unit among;
        unit_is = own-unit design.app unit;
      });
      done = λ one has waits. Contains-nil has;
      bare = λ one has grant among same. Contains-nil has;
    }

-- So is that after any number of turns.
pub sound-turns : (design : Design) → IsChip design.chip → IsApp design.app
    → IsAppOf design.chip design.app → (turns : ℕ)
    → IsSoundState design (groups_of design.app) (after_turns design (groups_of design.app) turns)
unfolding after_turns
sound-turns design chip app of zero = first-sound design chip app of
sound-turns design chip app of (suc turns) =
    sound-after design (groups_of design.app) chip app (suc turns)
    (after_turns design (groups_of design.app) turns) (sound-turns design chip app of turns)

-- No two grants of the last state are for one side of one unit.
pub last-apart : (design : Design) → IsChip design.chip → IsApp design.app
    → IsAppOf design.chip design.app
    → AllPairs AreApart (last_state design (groups_of design.app)).reserved.book.grants
last-apart design chip app of =
    (sound-turns design chip app of (length (units_of (groups_of design.app)))).reserved.apart

-- ---- how many wait

fewer-by : (design : Design) (turn : ℕ) (state : State) (unit : Option GroupUnit)
    → next_unit state.units state.reserved.seats.places ≡ unit
    → length (after_turn_of design turn state unit).units.waiting
    ≤ length state.units.waiting - 1
fewer-by design turn state None next =
    let none = ap length (none-waits state.units state.reserved.seats.places next) in
    omega (arith, none)
fewer-by design turn state (Some unit) next =
    let fewer = fewer-wait state.units unit
    (next-waits state.units state.reserved.seats.places unit next) in
    omega (arith, fewer)

-- Each turn takes one that waits.
fewer-after : (design : Design) (turn : ℕ) (state : State)
    → length (after_turn design turn state).units.waiting ≤ length state.units.waiting - 1
unfolding after_turn
fewer-after design turn state =
    fewer-by design turn state (next_unit state.units state.reserved.seats.places) refl

few-wait : (design : Design) (groups : GroupsData) (turns : ℕ)
    → length (after_turns design groups turns).units.waiting
    ≤ length (units_of groups) - turns
unfolding after_turns
few-wait design groups zero =
    let all = length-units design.app groups in
    omega (arith, all)
few-wait design groups (suc turns) =
    let before = few-wait design groups turns in
    let fewer = fewer-after design (suc turns) (after_turns design groups turns) in
    omega (arith, before, fewer)

nothing-left : {X : Type 0} (xs : List X) → length xs ≤ 0 → xs ≡ []
nothing-left [] few = refl
nothing-left (x ∷ xs) few = absurd (omega arith)

-- After the last turn none waits.
pub none-waits-last : (design : Design) (groups : GroupsData)
    → (last_state design groups).units.waiting ≡ []
none-waits-last design groups =
    let few = few-wait design groups (length (units_of groups)) in
    nothing-left (last_state design groups).units.waiting (omega (arith, few))
