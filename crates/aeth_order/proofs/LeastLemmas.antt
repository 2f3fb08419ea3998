-- None that waits comes before the next unit.
use Rattle.std.proofs.Common.{◌≡◌, ◌∙◌, ◌↔◌, ℕ, cond, List, [], ◌∷◌, Contains, Option, Some, None}
use Rattle.std.proofs.Common.{refl, sym, ap, subst, inl, inr, fold, option_map}
use Rattle.std.proofs.lemmas.Option.{none-some, same_Some}
use Rattle.std.specs.Cmp.{IsTotalOrder, nat_cmp_is}
use Rattle.std.specs.Ordering.{is_lt, nat_cmp, ordering_reverse, ordering_then}
use Rattle.std.specs.declared.cmp.Ordering.{Ordering}
use Rattle.std.specs.declared.cmp.Ordering.TheVariants.{Less, Equal, Greater}
use Rattle.aeth_base.specs.declared.ids.Unit.{Unit as GroupUnit}
use Rattle.aeth_base.proofs.Members.{Contains-cases, Contains-nil}
use Rattle.aeth_seats.specs.Places.{Place}
use Rattle.aeth_order.specs.{Order.earlier, Order.first_by, Order.seat_key, Order.turn_order}
use Rattle.aeth_order.specs.{Turn.ComesBefore, Turn.IsLess, Turn.IsNext, Units.UnitsData}
use Rattle.aeth_order.specs.{Units.next_unit, declared.keys.UnitKeys.UnitKeys}
use Rattle.aeth_order.proofs.NextLemmas.{first_by-among}
use Rattle.aeth_order.proofs.TurnLemmas.{itself, same-number, turn_total}

-- ---- What comes before by the keys comes before by the comparison

-- By one key, and by what is behind it.
less-then : (a b : ℕ) (rest : Ordering) (Rest : Type 0) → (Rest → rest ≡ Less) → IsLess a b Rest
    → ordering_then (nat_cmp a b) rest ≡ Less
less-then a b rest Rest behind (inl less) =
    ap (λ o. ordering_then o rest) (sym (nat_cmp_is a b Less less))
less-then a b rest Rest behind (inr (same, is)) =
    ap (λ n. ordering_then (nat_cmp n b) rest) same
    ∙ ap (λ o. ordering_then o rest) (same-number b) ∙ behind is

before-less : (places : List (Option Place)) (a b : UnitKeys) → ComesBefore places a b
    → turn_order places a b ≡ Less
before-less places a b =
    less-then (seat_key places a) (seat_key places b) _ _
    (less-then b.need a.need _ _
    (less-then a.latency b.latency _ _
    (less-then a.unit.conn.0 b.unit.conn.0 _ _
    (λ less. sym (nat_cmp_is a.unit.group.0 b.unit.group.0 Less less)))))

-- ---- The first of a list

module _ (order : UnitKeys → UnitKeys → Ordering) (total : IsTotalOrder order) where
  -- One that doesn't come before the earlier of two comes before neither.
  earlier-least : (b x m : UnitKeys) (o : Ordering) → order x b ≡ o
      → (order (cond (is_lt o) x b) m ≡ Less → ⊥)
      → (order b m ≡ Less → ⊥) × (order x m ≡ Less → ⊥)
  earlier-least b x m Less is not = ((λ before. not (total.trans x b m is before)), not)
  earlier-least b x m Equal is not =
      (not, (λ before. not (sym (total.congr x b m is) ∙ before)))
  earlier-least b x m Greater is not = (
    not,
    (λ before. not (total.trans b x m
        (total.antisymm b x ∙ ap ordering_reverse is) before)),
  )

  -- None comes before what is left of a list.
  folds-least : (units : List UnitKeys) (b m : UnitKeys)
      → fold (earlier order) (Some b) units ≡ Some m
      → (order b m ≡ Less → ⊥)
      × ((a : UnitKeys) → Contains units a → order a m ≡ Less → ⊥)
  folds-least [] b m is = (
    (λ before. let same : order b b ≡ Less = ap (order b) (same_Some b m is) ∙ before in
        let equal = itself (order b b) (total.antisymm b b) in
        let wrong : Less ≡ Equal = sym same ∙ equal in cc),
    (λ a has. Contains-nil has),
  )
  folds-least (x ∷ units) b m is =
      let rest = folds-least units (cond (is_lt (order x b)) x b) m is in
      let both = earlier-least b x m (order x b) refl rest.0 in (
        both.0,
        (λ a has. elim (Contains-cases x units a has) [
          | inl here ↦ subst (λ k. order k m ≡ Less → ⊥) here both.1
          | inr later ↦ rest.1 a later
        ]),
      )

  -- None of a list comes before its first.
  first_by-least : (units : List UnitKeys) (m : UnitKeys) → first_by order units ≡ Some m
      → (a : UnitKeys) → Contains units a → order a m ≡ Less → ⊥
  first_by-least [] m is a has = Contains-nil has
  first_by-least (x ∷ units) m is a has =
      let least = folds-least units x m is in
      elim (Contains-cases x units a has) [
        | inl here ↦ subst (λ k. order k m ≡ Less → ⊥) here least.0
        | inr later ↦ least.1 a later
      ]

-- A list that isn't empty has a first.
folds-some : (order : UnitKeys → UnitKeys → Ordering) (units : List UnitKeys) (b : UnitKeys)
    → fold (earlier order) (Some b) units ≡ None → ⊥
folds-some order [] b none = none-some b (sym none)
folds-some order (x ∷ units) b none =
    folds-some order units (cond (is_lt (order x b)) x b) none

-- A list without a first is empty.
pub first_by-none : (order : UnitKeys → UnitKeys → Ordering) (units : List UnitKeys)
    → first_by order units ≡ None → units ≡ []
first_by-none order [] none = refl
first_by-none order (x ∷ units) none = absurd (folds-some order units x none)

-- ---- The next unit

of-unit : (found : Option UnitKeys) (unit : GroupUnit)
    → option_map (λ (a : UnitKeys). a.unit) found ≡ Some unit
    → (keys : UnitKeys) × ((found ≡ Some keys) × (keys.unit ≡ unit))
of-unit None unit is = absurd (none-some unit is)
of-unit (Some keys) unit is = (keys, (refl, same_Some keys.unit unit is))

of-none : (found : Option UnitKeys) → option_map (λ (a : UnitKeys). a.unit) found ≡ None
    → found ≡ None
of-none None is = refl
of-none (Some keys) is = absurd (none-some keys.unit (sym is))

-- The next unit waits, and none that waits comes before it.
pub next-is_next : (units : UnitsData) (places : List (Option Place)) (unit : GroupUnit)
    → next_unit units places ≡ Some unit → IsNext units places unit
next-is_next units places unit is =
    let order = turn_order places in
    let (keys, both) = of-unit (first_by order units.waiting) unit is in
    let (found, unit_is) = both in
    record {
      keys = keys;
      unit_is = unit_is;
      waits = first_by-among order units.waiting keys found;
      first = λ other has before. first_by-least order (turn_total places) units.waiting keys found
          other has (before-less places other keys before);
    }

-- There is none exactly where none waits.
pub next-none : (units : UnitsData) (places : List (Option Place))
    → (next_unit units places ≡ None) ↔ (units.waiting ≡ [])
next-none units places = (
  (λ none. first_by-none (turn_order places) units.waiting (of-none _ none)),
  (λ empty. ap (λ us. option_map (λ (a : UnitKeys). a.unit) (first_by (turn_order places) us))
      empty),
)
