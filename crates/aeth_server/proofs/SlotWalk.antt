-- From a cycle on to the next slot of a table, or to its end.
use Rattle.std.proofs.Common.{ℕ, zero, suc, ◌+◌, ◌-◌, ◌*◌, ◌%◌, ◌<◌, ◌≤◌, ◌≡◌, ◌∙◌, Bool, true}
use Rattle.std.proofs.Common.{false, List, length, Contains, refl, sym, ap, inl, inr, subst, arith}
use Rattle.std.proofs.Common.{le-leb}
use Rattle.std.proofs.Math.Nat.{mod-eq_of_lt}
use Rattle.std.proofs.lemmas.Bool.{cases_lt, false_from_ne_true}
use Rattle.aeth_base.specs.Extremes.{least_below}
use Rattle.aeth_base.proofs.ExtremeLemmas.{least_below-first, true_and_false}
use Rattle.aeth_slots.specs.SlotSet.{Ascends}
use Rattle.aeth_server.specs.SlotCycles.{is_slot, nth_slot, slots_within}
use Rattle.aeth_server.proofs.SlotCycleLemmas.{is_slot-member, member-is_slot, nth_slot-reached}
use Rattle.aeth_server.proofs.SlotCycleLemmas.{reaches, same_slot-later, slots_within-other}

-- The slot of a cycle n after one with a slot, where the table goes that far.
pub slot-later : (size cycle here n : ℕ) → here ≡ cycle % size → here + n < size
    → (cycle + n) % size ≡ here + n
slot-later size cycle here n is within =
    let low : here < size = omega arith in
    let same : cycle % size ≡ here % size = sym is ∙ sym (mod-eq_of_lt low) in
    same_slot-later size cycle here n same ∙ mod-eq_of_lt within

module _ (size : ℕ) (slots : List ℕ) where
  -- The next slot is a slot of its cycle.
  pub slot-reached : (cycle here n : ℕ) → here ≡ cycle % size → here + n < size
      → Contains slots (here + n) → is_slot size slots (cycle + n) ≡ true
  slot-reached cycle here n is within has =
      is_slot-member size slots (cycle + n)
      (subst (λ (slot : ℕ). Contains slots slot) (sym (slot-later size cycle here n is within)) has)

  -- The cycles before it have none.
  pub slots-passed : (cycle here n : ℕ) → here ≡ cycle % size → here + n ≤ size
      → ((slot : ℕ) → Contains slots slot → here ≤ slot → here + n ≤ slot)
      → (t : ℕ) → cycle ≤ t → t < cycle + n → is_slot size slots t ≡ false
  slots-passed cycle here n is within least t from to =
      let on : cycle + (t - cycle) ≡ t = omega arith in
      let place = slot-later size cycle here (t - cycle) is (omega arith) in
      let slot : t % size ≡ here + (t - cycle) = sym (ap (λ u. u % size) on) ∙ place in
      false_from_ne_true _ (λ is_one.
      let has = subst (λ (x : ℕ). Contains slots x) slot (member-is_slot size slots t is_one) in
      let far = least (here + (t - cycle)) has (omega arith) in
      absurd (omega arith))

  -- The q-th slot has come where q of them lie.
  nth_slot-soon : (s q n : ℕ) → q ≤ slots_within size slots s (n + 1)
      → nth_slot size slots s q - s ≤ n
  unfolding nth_slot
  nth_slot-soon s q n enough =
      let passes = le-leb q (slots_within size slots s (n + 1)) enough in
      elim (cases_lt n (least_below (reaches size slots s q) (q * size))) [
        | inl sooner ↦ absurd (true_and_false _ passes
            (least_below-first (reaches size slots s q) (q * size) n sooner))
        | inr later ↦ omega arith
      ]

  -- Fewer lie before it.
  fewer-before : (s q wait : ℕ) → 1 ≤ q → wait ≡ nth_slot size slots s q - s
      → slots_within size slots s wait < q
  fewer-before s q zero some is = omega arith
  fewer-before s q (suc n) some is = elim (cases_lt (slots_within size slots s (suc n)) q) [
    | inl fewer ↦ fewer
    | inr enough ↦
        let next : suc n ≡ n + 1 = omega arith in
        let same = ap (slots_within size slots s) next in
        let soon = nth_slot-soon s q n (omega (arith, same)) in
        absurd (omega (arith, soon, is))
  ]

  -- How long from a cycle on until its q-th slot, which comes within a table.
  pub record IsWait (s q wait : ℕ) : Type 0 where
    pub soon : wait < size
    pub slot : is_slot size slots (s + wait) ≡ true
    pub fewer : slots_within size slots s wait < q

  pub nth_slot-waits : Ascends 0 size slots → (s q : ℕ) → 1 ≤ q → q ≤ length slots
      → IsWait s q (nth_slot size slots s q - s)
  nth_slot-waits ascends s q some most =
      let wait = nth_slot size slots s q - s in
      let found = nth_slot-reached size slots ascends s q some most in
      let fewer = fewer-before s q wait some refl in
      let next : wait + 1 ≡ suc wait = omega arith in
      let same = ap (slots_within size slots s) next in
      let split : (v : Bool) → is_slot size slots (s + wait) ≡ v
      → is_slot size slots (s + wait) ≡ true = elim [
        | true ↦ λ is. is
        | false ↦ λ is.
            let none = slots_within-other size slots s wait is in
            absurd (omega (arith, found.reached, fewer, none, same))
      ] in
      record { soon = found.soon; slot = split (is_slot size slots (s + wait)) refl; fewer = fewer }
