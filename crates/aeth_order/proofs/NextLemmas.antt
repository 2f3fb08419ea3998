-- The next unit is the first that waits in their own order, of those with a seated core if there are any.
use Rattle.std.proofs.Common.{◌≡◌, ◌⊎◌, ◌∙◌, Bool, true, false, cond, eqb, List, [], ◌∷◌, Contains}
use Rattle.std.proofs.Common.{Option, Some, None, refl, sym, ap, subst, inl, inr, arith, slice_get}
use Rattle.std.proofs.Common.{fold, eq-eqb, eqb-true}
use Rattle.std.proofs.lemmas.{Bool.and_from, Bool.and_parts, Option.same_Some}
use Rattle.std.specs.List.{items_where_true}
use Rattle.std.specs.Ordering.{is_lt}
use Rattle.std.specs.declared.cmp.Ordering.{Ordering}
use Rattle.std.specs.declared.cmp.Ordering.TheVariants.{Less, Equal, Greater}
use Rattle.aeth_app.specs.App.{is_marked}
use Rattle.aeth_seats.specs.Places.{Place}
use Rattle.aeth_order.specs.declared.keys.UnitKeys.{UnitKeys}
use Rattle.aeth_order.specs.Grid.{IsFound, IsOrdered, grid_place, waits, waits_seated}
use Rattle.aeth_order.specs.Order.{earlier, first_by, seat_key, turn_order, unit_order}
use Rattle.aeth_order.proofs.{FirstByLemmas.first_by-is, GridLemmas.at-marked, GridLemmas.marked-at}
use Rattle.aeth_order.proofs.{SortedLemmas.not-earlier, TurnLemmas.after-in_turn}
use Rattle.aeth_order.proofs.{TurnLemmas.seat_key-cases, TurnLemmas.seated-before}
use Rattle.aeth_order.proofs.{TurnLemmas.turn_total, TurnLemmas.unit_order-exact}
use Rattle.aeth_base.proofs.Members.{Contains-here, Contains-there}

-- A first unit is in its list.
earlier-among : (a b : UnitKeys) (o : Ordering) (m : UnitKeys) → cond (is_lt o) b a ≡ m
    → (a ≡ m) ⊎ (b ≡ m)
earlier-among a b Less m is = inr is
earlier-among a b Equal m is = inl is
earlier-among a b Greater m is = inl is

folds-among : (order : UnitKeys → UnitKeys → Ordering) (units : List UnitKeys)
    (best : Option UnitKeys) (m : UnitKeys) → fold (earlier order) best units ≡ Some m
    → (best ≡ Some m) ⊎ Contains units m
folds-among order [] best m is = inl is
folds-among order (x ∷ units) None m is = elim (folds-among order units (Some x) m is) [
  | inl here ↦ inr (subst (Contains (x ∷ units)) (same_Some x m here) (Contains-here x units))
  | inr later ↦ inr (Contains-there x units m later)
]
folds-among order (x ∷ units) (Some a) m is =
    elim (folds-among order units (Some (cond (is_lt (order x a)) x a)) m is) [
      | inl one ↦ elim (earlier-among a x (order x a) m (same_Some _ m one)) [
        | inl first ↦ inl (ap Some first)
        | inr second ↦ inr (subst (Contains (x ∷ units)) second (Contains-here x units))
      ]
      | inr later ↦ inr (Contains-there x units m later)
    ]

-- The first of a list is in it.
pub first_by-among : (order : UnitKeys → UnitKeys → Ordering) (units : List UnitKeys) (m : UnitKeys)
    → first_by order units ≡ Some m → Contains units m
first_by-among order units m is = elim (folds-among order units None m is) [
  | inl wrong ↦ cc wrong
  | inr has ↦ has
]

-- Where nothing waits, there is no first.
none-first : (places : List (Option Place)) (units : List UnitKeys)
    → ((a : UnitKeys) → Contains units a → ⊥) → first_by (turn_order places) units ≡ None
none-first places [] none = refl
none-first places (x ∷ units) none = absurd (none x (Contains-here x units))

-- ---- units in their own order, among which are those that wait

module _ (grid : List UnitKeys) (marks : List Bool) (order : List UnitKeys)
    (is : IsOrdered grid marks order)
  where
    abbrev units : List UnitKeys
    units = items_where_true marks grid

    -- Units that their order doesn't tell apart are one.
    told : (a b : UnitKeys) → Contains order a → Contains order b → unit_order a b ≡ Equal → a ≡ b
    told a b has has' alike =
        let (conn, group) = unit_order-exact a b alike in
        let place : grid_place a.unit ≡ grid_place b.unit = omega (arith, conn, group) in
        same_Some a b (sym (is.units a has)
        ∙ ap (slice_get grid) place ∙ is.units b has')

    -- A unit of the order that has a mark waits.
    order-waits : (a : UnitKeys) → Contains order a → waits marks a ≡ true → Contains units a
    order-waits a has waiting =
        at-marked marks grid (grid_place a.unit) a (is.units a has) waiting

    pub waiting-mark : (a : UnitKeys) → Contains units a → waits marks a ≡ true
    waiting-mark a has =
        let at = marked-at marks grid a has in
        ap (is_marked marks) (is.table.placed at.place a at.is).unit ∙ at.marked

    -- The first that passes a test is the first in a turn, where each one that waits comes later in the
    -- turn, or has its first key and passes too.
    first-found : (places : List (Option Place)) (test : UnitKeys → Bool) (m : UnitKeys)
        → IsFound test order (Some m) → waits marks m ≡ true
        → ((a : UnitKeys) → Contains units a → (turn_order places m a ≡ Less)
        ⊎ ((seat_key places m ≡ seat_key places a) × (test a ≡ true)))
        → first_by (turn_order places) units ≡ Some m
    first-found places test m found waiting others =
        first_by-is (turn_order places) (turn_total places) units m (record {
          is_in = order-waits m found.0 waiting;
          before = λ a has. elim (others a has) [
            | inl after ↦ inr after
            | inr alike ↦ after-in_turn places m a alike.0
                (not-earlier m a (unit_order a m) refl (found.1.1 a (is.waiting a has) alike.1)
                (told a m (is.waiting a has) found.0))
          ];
        })

    -- A unit that waits and has a seated core.
    seated : (places : List (Option Place)) (a : UnitKeys) → waits marks a ≡ true
        → seat_key places a ≡ 0 → waits_seated marks places a ≡ true
    seated places a waiting zero =
        and_from (eqb (seat_key places a) 0) (waits marks a) (eq-eqb _ 0 zero) waiting

    -- The first that waits and has a seated core is the next.
    pub next-seated : (places : List (Option Place)) (m : UnitKeys)
        → IsFound (waits_seated marks places) order (Some m)
        → first_by (turn_order places) units ≡ Some m
    next-seated places m found =
        let (key, waiting) = and_parts (eqb (seat_key places m) 0) (waits marks m) found.1.0 in
        let zero : seat_key places m ≡ 0 = eqb-true _ _ key in
        first-found places (waits_seated marks places) m found waiting (λ a has.
        elim (seat_key-cases places a) [
          | inl too ↦ inr (zero ∙ sym too, seated places a (waiting-mark a has) too)
          | inr one ↦ inl (seated-before places m a zero one)
        ])

    -- Where none that waits has a seated core, it is the first that waits, if one does.
    unseated : (places : List (Option Place)) → IsFound (waits_seated marks places) order None
        → (a : UnitKeys) → Contains order a → waits marks a ≡ true → seat_key places a ≡ 1
    unseated places none a has waiting = elim (seat_key-cases places a) [
      | inl zero ↦
          let wrong : true ≡ false = sym (seated places a waiting zero) ∙ none a has in
          cc wrong
      | inr one ↦ one
    ]

    pub next-waiting : (places : List (Option Place)) (next : Option UnitKeys)
        → IsFound (waits_seated marks places) order None → IsFound (waits marks) order next
        → first_by (turn_order places) units ≡ next
    next-waiting places None none found =
        none-first places units (λ a has.
        let wrong : true ≡ false = sym (waiting-mark a has) ∙ found a (is.waiting a has) in
        cc wrong)
    next-waiting places (Some m) none found =
        let one = unseated places none m found.0 found.1.0 in
        first-found places (waits marks) m found found.1.0 (λ a has.
        inr (
          one ∙ sym (unseated places none a (is.waiting a has) (waiting-mark a has)),
          waiting-mark a has,
        ))
