-- The order of grants: a rising list is ordered at all places.
use Rattle.std.proofs.Common.{◌≡◌, ◌∙◌, ◌<◌, ℕ, zero, suc, true, false, eqb, List, [], ◌∷◌, Some}
use Rattle.std.proofs.Common.{slice_get, sym, ap, arith, eq-eqb}
use Rattle.std.proofs.lemmas.{Bool.cond-true, Option.none-some, Option.same_Some}
use Rattle.aeth_group.specs.declared.grant.Grant.{Grant}
use Rattle.aeth_text.specs.Order.{Rises, RisesAfter}
use Rattle.aeth_plan.specs.Plan.{grant_before, side_before}
use Rattle.aeth_plan.proofs.MadePlans.{before_trans, side_before-itself}

by_side : (a b : Grant) → a.unit.conn.0 ≡ b.unit.conn.0 → a.unit.group.0 ≡ b.unit.group.0
    → grant_before a b ≡ side_before a.side b.side
by_side a b conn group =
    cond-true (eqb a.unit.conn.0 b.unit.conn.0) _ _ (eq-eqb _ _ conn)
    ∙ cond-true (eqb a.unit.group.0 b.unit.group.0) _ _ (eq-eqb _ _ group)

-- A grant comes before none with its connection, group and side.
pub not_before : (a b : Grant) → a.unit.conn.0 ≡ b.unit.conn.0
    → a.unit.group.0 ≡ b.unit.group.0 → a.side ≡ b.side → grant_before a b ≡ false
not_before a b conn group side =
    by_side a b conn group ∙ ap (λ s. side_before a.side s) (sym side) ∙ side_before-itself a.side

before_all : (last : Grant) (xs : List Grant) → RisesAfter grant_before last xs → (i : ℕ)
    (x : Grant) → slice_get xs i ≡ Some x → grant_before last x ≡ true
before_all last [] rises i x at = absurd (none-some x at)
before_all last (y ∷ xs) rises zero x at =
    ap (grant_before last) (sym (same_Some y x at)) ∙ rises.0
before_all last (y ∷ xs) rises (suc i) x at =
    before_trans last y x rises.0 (before_all y xs rises.1 i x at)

after_at : (last : Grant) (xs : List Grant) → RisesAfter grant_before last xs → (i j : ℕ)
    (a b : Grant) → i < j → slice_get xs i ≡ Some a → slice_get xs j ≡ Some b
    → grant_before a b ≡ true
after_at last [] rises i j a b less at_i at_j = absurd (none-some a at_i)
after_at last (x ∷ xs) rises zero zero a b less at_i at_j = absurd (omega arith)
after_at last (x ∷ xs) rises zero (suc j) a b less at_i at_j =
    ap (λ y. grant_before y b) (sym (same_Some x a at_i)) ∙ before_all x xs rises.1 j b at_j
after_at last (x ∷ xs) rises (suc i) zero a b less at_i at_j = absurd (omega arith)
after_at last (x ∷ xs) rises (suc i) (suc j) a b less at_i at_j =
    after_at x xs rises.1 i j a b (omega arith) at_i at_j

-- In a list that rises, each grant comes before all behind it.
pub rises_at : (xs : List Grant) → Rises grant_before xs → (i j : ℕ) (a b : Grant) → i < j
    → slice_get xs i ≡ Some a → slice_get xs j ≡ Some b → grant_before a b ≡ true
rises_at [] rises i j a b less at_i at_j = absurd (none-some a at_i)
rises_at (x ∷ xs) rises zero zero a b less at_i at_j = absurd (omega arith)
rises_at (x ∷ xs) rises zero (suc j) a b less at_i at_j =
    ap (λ y. grant_before y b) (sym (same_Some x a at_i)) ∙ before_all x xs rises j b at_j
rises_at (x ∷ xs) rises (suc i) zero a b less at_i at_j = absurd (omega arith)
rises_at (x ∷ xs) rises (suc i) (suc j) a b less at_i at_j =
    after_at x xs rises i j a b (omega arith) at_i at_j
