-- Laws of tables of slots: what a unit's use cases change.
use Rattle.std.proofs.Common.{◌≡◌, ◌+◌, ◌&&◌, ◌||◌, ℕ, Bool, true, false, eqb, List, length, ltb}
use Rattle.std.proofs.Common.{refl, inl, inr, arith, eq-eqb, le-ltb, lt-ltb, ne_eqb}
use Rattle.std.proofs.Math.Bool.{or-false}
use Rattle.std.proofs.lemmas.Bool.{cases_eq, cases_lt}
use Rattle.aeth_base.specs.declared.ids.{LinkId.LinkId, Unit.Unit as GroupUnit}
use Rattle.aeth_chip.specs.declared.node.Link.{Link}
use Rattle.aeth_slots.specs.SlotSet.{Slots}
use Rattle.aeth_group.specs.{Members.GroupsData, Members.has_unit, Occupation.enters}
use Rattle.aeth_group.specs.{Tables.Changes, Tables.hits_row, Tables.hits_uses}
use Rattle.aeth_group.proofs.TableLemmas.{changes-same, changes-then}

next_use : (has : ℕ → Bool) (v u : ℕ) (e : Bool) → has u ≡ true
    → ((ltb v u && (has v && e)) || (eqb v u && e)) ≡ (ltb v (u + 1) && (has v && e))
next_use has v u e is = elim (cases_lt v u) [
  | inl before ↦ rw (
    lt-ltb v u before,
    ne_eqb v u (λ same. absurd (omega arith)),
    lt-ltb v (u + 1) (omega arith),
  ) (or-false (has v && e))
  | inr after ↦ elim (cases_eq v u) [
    | inl same ↦ rw same (rw (
      le-ltb u u (omega arith),
      eq-eqb u u refl,
      lt-ltb u (u + 1) (omega arith),
      is,
    ) refl)
    | inr other ↦ rw (
      le-ltb v u after,
      ne_eqb v u other,
      le-ltb v (u + 1) (omega arith),
    ) refl
  ]
]

-- One more use case has changed, which has the unit.
pub uses_step : (size : ℕ) (starts : Slots) (links : List Link) (groups : GroupsData)
    (unit : GroupUnit) (path : List LinkId) (u : ℕ) (put : Bool) (old now new : List Slots)
    → has_unit groups unit u ≡ true
    → Changes size (length links) (hits_uses starts links groups unit path u) put old now
    → Changes size (length links) (hits_row starts links u path) put now new
    → Changes size (length links) (hits_uses starts links groups unit path (u + 1)) put old
    new
uses_step size starts links groups unit path u put old now new has changes row =
    changes-same size (length links) _ (hits_uses starts links groups unit path (u + 1)) put
    old new
    (changes-then size (length links) (hits_uses starts links groups unit path u)
    (hits_row starts links u path) put old now new changes row)
    (λ v l s low within below.
    next_use (has_unit groups unit) v u (enters starts links 0 path l s) has)

no_use : (has : ℕ → Bool) (v u : ℕ) (e : Bool) → has u ≡ false
    → (ltb v u && (has v && e)) ≡ (ltb v (u + 1) && (has v && e))
no_use has v u e is = elim (cases_lt v u) [
  | inl before ↦ rw (lt-ltb v u before, lt-ltb v (u + 1) (omega arith)) refl
  | inr after ↦ elim (cases_eq v u) [
    | inl same ↦
        rw same (rw (le-ltb u u (omega arith), lt-ltb u (u + 1) (omega arith), is) refl)
    | inr other ↦ rw (le-ltb v u after, le-ltb v (u + 1) (omega arith)) refl
  ]
]

-- One that doesn't have it has not.
pub uses_skip : (size : ℕ) (starts : Slots) (links : List Link) (groups : GroupsData)
    (unit : GroupUnit) (path : List LinkId) (u : ℕ) (put : Bool) (old now : List Slots)
    → has_unit groups unit u ≡ false
    → Changes size (length links) (hits_uses starts links groups unit path u) put old now
    → Changes size (length links) (hits_uses starts links groups unit path (u + 1)) put old
    now
uses_skip size starts links groups unit path u put old now lacks changes =
    changes-same size (length links) (hits_uses starts links groups unit path u)
    (hits_uses starts links groups unit path (u + 1)) put old now changes
    (λ v l s low within below.
    no_use (has_unit groups unit) v u (enters starts links 0 path l s) lacks)
