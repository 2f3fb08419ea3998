-- How many slots lie in a stretch of cycles.
use Rattle.std.proofs.Common.{ℕ, ◌+◌, ◌-◌, ◌*◌, ◌%◌, ◌<◌, ◌≤◌, ◌≡◌, ◌∙◌, zero, suc, Bool, true}
use Rattle.std.proofs.Common.{false, eqb, leb, List, [], ◌∷◌, length, Contains, sym, refl, ap, inl}
use Rattle.std.proofs.Common.{inr, arith, eqb-true, ne_eqb, eq-eqb, le-leb, leb-true}
use Rattle.std.proofs.Math.Nat.{mod-eq_of_lt, mod-add-mod, add-mod_right}
use Rattle.std.proofs.lemmas.Bool.{false_from_ne_true, cases_lt}
use Rattle.std.proofs.lemmas.Map.Views.{Contains-from_any, list_any-from_Contains}
use Rattle.std.specs.{Cmp.nat_eq_equiv, List.list_any}
use Rattle.aeth_slots.specs.SlotSet.{Ascends}
use Rattle.aeth_base.specs.Extremes.{least_below}
use Rattle.aeth_base.proofs.ExtremeLemmas.{true_and_false, least_below-passes, least_below-first}
use Rattle.aeth_server.specs.SlotCycles.{is_slot, slots_within, nth_slot}

-- Cycles with one slot have one slot as many cycles later.
pub same_slot-later : (size s u n : ℕ) → s % size ≡ u % size → (s + n) % size ≡ (u + n) % size
same_slot-later size s u n same =
    sym (mod-add-mod s size n) ∙ ap (λ r. (r + n) % size) same ∙ mod-add-mod u size n

-- Numbers before all of an ascending list are not in it.
before-ascending : (low high t : ℕ) (xs : List ℕ) → Ascends low high xs → t < low
    → list_any (eqb t) xs ≡ false
before-ascending low high t [] ascends before = refl
before-ascending low high t (x ∷ xs) ascends before =
    rw (ne_eqb t x (λ same. omega (arith, ascends.0)))
    (before-ascending (x + 1) high t xs ascends.2 (omega (arith, ascends.0)))

-- One table or more.
tables : (q size : ℕ) → 1 ≤ q → size ≤ q * size
tables zero size some = absurd (omega arith)
tables (suc q) size some = omega arith

-- The q-th slot comes within a turn, and q slots lie up to it.
pub record IsReached (size : ℕ) (slots : List ℕ) (s q wait : ℕ) : Type 0 where
  pub soon : wait < size
  pub reached : q ≤ slots_within size slots s (wait + 1)

module _ (size : ℕ) (slots : List ℕ) where
  abbrev slot : ℕ → Bool
  slot t = is_slot size slots t

  abbrev within : ℕ → ℕ → ℕ
  within s n = slots_within size slots s n

  -- ---- the slot of a cycle
  -- a cycle has a slot of the list where its slot is in the list
  pub is_slot-member : (t : ℕ) → Contains slots (t % size) → slot t ≡ true
  is_slot-member t has = list_any-from_Contains nat_eq_equiv (t % size) slots has

  -- and only there
  pub member-is_slot : (t : ℕ) → slot t ≡ true → Contains slots (t % size)
  member-is_slot t is = Contains-from_any eqb-true (t % size) slots is

  -- an answer that tells whether the cycle's slot is in the list is the test
  pub is_slot-answer : (t r : ℕ) (answer : Bool) → r ≡ t % size
      → (answer ≡ true → Contains slots r) → (Contains slots r → answer ≡ true) → answer ≡ slot t
  is_slot-answer t r true same found needed =
      sym (is_slot-member t (rw (← same) (found refl)))
  is_slot-answer t r false same found needed =
      sym (false_from_ne_true _ (λ is.
      true_and_false _ (needed (rw same (member-is_slot t is))) refl))

  -- cycles with one slot are slots alike
  pub is_slot-same : (t u : ℕ) → t % size ≡ u % size → slot t ≡ slot u
  is_slot-same t u same = ap (λ r. list_any (eqb r) slots) same

  -- ---- stretches
  -- a stretch grows by a cycle with a slot
  pub slots_within-slot : (s n : ℕ) → slot (s + n) ≡ true → within s (suc n) ≡ within s n + 1
  slots_within-slot s n is = rw is refl

  -- or by one without
  pub slots_within-other : (s n : ℕ) → slot (s + n) ≡ false → within s (suc n) ≡ within s n
  slots_within-other s n is = rw is (omega arith)

  -- it has no more slots than cycles
  pub slots_within-most : (s n : ℕ) → within s n ≤ n
  slots_within-most s zero = omega arith
  slots_within-most s (suc n) =
      let rest = slots_within-most s n in
      let split : (v : Bool) → slot (s + n) ≡ v → within s (suc n) ≤ suc n = elim [
        | true ↦ λ is. omega (arith, rest, slots_within-slot s n is)
        | false ↦ λ is. omega (arith, rest, slots_within-other s n is)
      ] in split (slot (s + n)) refl

  -- it has as many from another cycle with the same slot
  pub slots_within-same : (s u n : ℕ) → s % size ≡ u % size → within s n ≡ within u n
  slots_within-same s u zero same = refl
  slots_within-same s u (suc n) same =
      let last = is_slot-same (s + n) (u + n) (same_slot-later size s u n same) in
      rw (slots_within-same s u n same, last) refl

  -- two stretches, one after the other
  pub slots_within-add : (s a b : ℕ) → within s (a + b) ≡ within s a + within (s + a) b
  slots_within-add s a zero =
      let none : a + 0 ≡ a = omega arith in
      let same = ap (within s) none in
      omega (arith, same)
  slots_within-add s a (suc b) =
      let last : s + (a + b) ≡ (s + a) + b = omega arith in
      let longer : a + suc b ≡ suc (a + b) = omega arith in
      let rest = slots_within-add s a b in
      let same = ap slot last in
      rw longer (rw same (omega (arith, rest)))

  -- a longer stretch has no fewer
  pub slots_within-more : (s a b : ℕ) → a ≤ b → within s a ≤ within s b
  slots_within-more s a b longer =
      let whole : a + (b - a) ≡ b = omega arith in
      let split = slots_within-add s a (b - a) in
      let same = ap (within s) whole in
      omega (arith, split, same)

  -- ---- a whole turn of the table
  -- a stretch without a slot
  slots_within-none : (s n : ℕ) → ((t : ℕ) → s ≤ t → t < s + n → slot t ≡ false) → within s n ≡ 0
  slots_within-none s zero none = refl
  slots_within-none s (suc n) none =
      let rest = slots_within-none s n (λ t from to. none t from (omega arith)) in
      let last = slots_within-other s n (none (s + n) (omega arith) (omega arith)) in
      omega (arith, rest, last)

  -- a stretch has the slots of an ascending list that tells them
  slots_within-ascending : (low n high : ℕ) (xs : List ℕ) → low + n ≡ high → Ascends low high xs
      → ((t : ℕ) → low ≤ t → t < high → slot t ≡ list_any (eqb t) xs) → within low n ≡ length xs
  slots_within-ascending low n high [] ends ascends tells =
      slots_within-none low n (λ t from to. tells t from (omega arith))
  slots_within-ascending low n high (x ∷ xs) ends ascends tells =
      let none : within low (x - low) ≡ 0 = slots_within-none low (x - low) (λ t from to.
      let listed = tells t from (omega (arith, ascends.0, ascends.1)) in
      let early : t < x = omega (arith, ascends.0) in
      listed ∙ before-ascending x high t (x ∷ xs) (omega arith, ascends.1, ascends.2) early) in
      let start : low + (x - low) ≡ x = omega (arith, ascends.0) in
      let listed : slot x ≡ true = tells x ascends.0 ascends.1 ∙ rw (eq-eqb x x refl) refl in
      let here = slots_within-slot low (x - low) (ap slot start ∙ listed) in
      let after : within (x + 1) (high - (x + 1)) ≡ length xs =
      slots_within-ascending (x + 1) (high - (x + 1)) high xs (omega (arith, ascends.1))
      ascends.2 (λ t from to.
      tells t (omega (arith, ascends.0)) to ∙ rw (ne_eqb t x (λ same. omega arith)) refl) in
      let split = slots_within-add low (suc (x - low)) (high - (x + 1)) in
      let first : low + suc (x - low) ≡ x + 1 = omega (arith, ascends.0) in
      let whole : suc (x - low) + (high - (x + 1)) ≡ n = omega (arith, ascends.0, ascends.1) in
      let wholes = ap (within low) whole in
      let afters = ap (λ r. within r (high - (x + 1))) first in
      omega (arith, none, here, after, split, wholes, afters)

  -- a turn that begins a cycle later has as many
  slots_within-slide : (s : ℕ) → within (suc s) size ≡ within s size
  slots_within-slide s =
      let one_first = slots_within-add s 1 size in
      let one_last = slots_within-add s size 1 in
      let order : 1 + size ≡ size + 1 = omega arith in
      let ordered = ap (within s) order in
      let turned = slots_within-same (s + size) s 1 (add-mod_right s size) in
      let next : s + 1 ≡ suc s = omega arith in
      let start = ap (λ r. within r size) next in
      omega (arith, one_first, one_last, ordered, turned, start)

  -- every turn has each slot once
  pub slots_within-turn : Ascends 0 size slots → (s : ℕ) → within s size ≡ length slots
  slots_within-turn ascends zero =
      slots_within-ascending 0 size size slots (omega arith) ascends
      (λ t from to. ap (λ r. list_any (eqb r) slots) (mod-eq_of_lt to))
  slots_within-turn ascends (suc s) = slots_within-slide s ∙ slots_within-turn ascends s

  -- so there are no more slots than cycles
  pub slots-most : Ascends 0 size slots → length slots ≤ size
  slots-most ascends = omega (arith, slots_within-turn ascends 0, slots_within-most 0 size)

  -- ---- the q-th slot
  -- q slots lie from s on, up to n cycles later
  abbrev pub reaches : ℕ → ℕ → ℕ → Bool
  reaches s q n = leb q (within s (n + 1))

  -- it comes within a turn
  pub nth_slot-reached : Ascends 0 size slots → (s q : ℕ) → 1 ≤ q → q ≤ length slots
      → IsReached size slots s q (nth_slot size slots s q - s)
  unfolding nth_slot
  nth_slot-reached ascends s q some most =
      let turn : (size - 1) + 1 ≡ size = omega (arith, slots-most ascends) in
      let turns = ap (within s) turn in
      let all : q ≤ within s ((size - 1) + 1) = omega (arith, turns, slots_within-turn ascends s) in
      let full = le-leb q (within s ((size - 1) + 1)) all in
      let last : size - 1 < q * size = omega (arith, turn, tables q size some) in
      let found = least_below-passes (reaches s q) (q * size) (size - 1) last full in
      let soon : least_below (reaches s q) (q * size) ≤ size - 1 =
      elim (cases_lt (size - 1) (least_below (reaches s q) (q * size))) [
        | inr near ↦ near
        | inl far ↦
            let fails = least_below-first (reaches s q) (q * size) (size - 1) far in
            absurd (true_and_false _ full fails)
      ] in
      let place : (s + least_below (reaches s q) (q * size)) - s
      ≡ least_below (reaches s q) (q * size) = omega arith in
      rw place (record { soon = omega (arith, soon, turn); reached = leb-true _ _ found.passes })
