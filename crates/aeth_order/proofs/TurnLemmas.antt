-- The order of turns: it is total, and what comes later in it by a unit's own order and its first key.
use Rattle.std.proofs.Common.{◌≡◌, ◌⊎◌, ◌∙◌, ◌||◌, ℕ, cond, List, Option, refl, ap, inl, inr}
use Rattle.std.proofs.lemmas.{Bool.cases_Bool, Cmp.back_total, Cmp.nat_cmp_total, Cmp.on_total}
use Rattle.std.proofs.lemmas.{Cmp.then_total, Map.Lookups.exact_unsigned}
use Rattle.std.specs.Cmp.{IsTotalOrder}
use Rattle.std.specs.Ordering.{nat_cmp, ordering_reverse, ordering_then}
use Rattle.std.specs.declared.cmp.Ordering.{Ordering}
use Rattle.std.specs.declared.cmp.Ordering.TheVariants.{Less, Equal, Greater}
use Rattle.aeth_base.proofs.TestLemmas.{then-Equal}
use Rattle.aeth_seats.specs.Places.{Place}
use Rattle.aeth_order.specs.declared.keys.UnitKeys.{UnitKeys}
use Rattle.aeth_order.specs.Order.{is_seated, seat_key, turn_order, unit_order}
use Rattle.aeth_order.proofs.FirstByLemmas.{IsAfter}

-- Both comparisons are total orders.
pub unit_total : IsTotalOrder unit_order
unit_total =
    then_total (on_total (λ (a : UnitKeys). a.need) (back_total nat_cmp_total))
    (then_total (on_total (λ (a : UnitKeys). a.latency) nat_cmp_total)
    (then_total (on_total (λ (a : UnitKeys). a.unit.conn.0) nat_cmp_total)
    (on_total (λ (a : UnitKeys). a.unit.group.0) nat_cmp_total)))

pub turn_total : (places : List (Option Place)) → IsTotalOrder (turn_order places)
turn_total places = then_total (on_total (seat_key places) nat_cmp_total) unit_total

-- Units that their order doesn't tell apart have one connection and one group.
pub unit_order-exact : (a b : UnitKeys) → unit_order a b ≡ Equal
    → (a.unit.conn.0 ≡ b.unit.conn.0) × (a.unit.group.0 ≡ b.unit.group.0)
unit_order-exact a b is =
    let needs = then-Equal _ _ is in
    let latencies = then-Equal _ _ needs.1 in
    let rest = then-Equal _ _ latencies.1 in
    (exact_unsigned _ _ rest.0, exact_unsigned _ _ rest.1)

-- A number is equal to itself.
pub itself : (o : Ordering) → o ≡ ordering_reverse o → o ≡ Equal
itself Less is = cc is
itself Equal is = refl
itself Greater is = cc is

pub same-number : (k : ℕ) → nat_cmp k k ≡ Equal
same-number k = itself (nat_cmp k k) (nat_cmp_total.antisymm k k)

-- A unit has a core with a seat, or none.
pub seat_key-cases : (places : List (Option Place)) (a : UnitKeys)
    → (seat_key places a ≡ 0) ⊎ (seat_key places a ≡ 1)
seat_key-cases places a =
    elim (cases_Bool (is_seated places a.from.0 || is_seated places a.to.0)) [
      | inl some ↦ inl (ap (λ b. cond b 0 1) some)
      | inr none ↦ inr (ap (λ b. cond b 0 1) none)
    ]

-- Of units with one first key, the one that comes later in their own order comes later in a turn.
pub after-in_turn : (places : List (Option Place)) (m a : UnitKeys)
    → seat_key places m ≡ seat_key places a → IsAfter unit_order m a
    → IsAfter (turn_order places) m a
after-in_turn places m a same (inl is) = inl is
after-in_turn places m a same (inr after) =
    inr (ap (λ k. ordering_then (nat_cmp k (seat_key places a)) (unit_order m a)) same
    ∙ ap (λ o. ordering_then o (unit_order m a)) (same-number (seat_key places a)) ∙ after)

-- A unit with a seated core comes before one that has none.
pub seated-before : (places : List (Option Place)) (m a : UnitKeys) → seat_key places m ≡ 0
    → seat_key places a ≡ 1 → turn_order places m a ≡ Less
seated-before places m a zero one =
    ap (λ k. ordering_then (nat_cmp k (seat_key places a)) (unit_order m a)) zero
    ∙ ap (λ k. ordering_then (nat_cmp 0 k) (unit_order m a)) one
