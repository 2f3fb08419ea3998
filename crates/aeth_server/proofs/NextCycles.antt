-- The next cycle of a slot list, by the least slot at or after that of a cycle, and where there is none
-- by the least of all.
use Rattle.std.proofs.Common.{ℕ, ◌+◌, ◌-◌, ◌%◌, ◌<◌, ◌≤◌, ◌≡◌, ◌∙◌, List, [], ◌∷◌, Contains, length}
use Rattle.std.proofs.Common.{sym, ap, inl, inr, arith, Option, Some, None, unwrap_or, IfSome}
use Rattle.std.proofs.Common.{IfNone}
use Rattle.std.proofs.Math.Nat.{mod-eq_of_lt, mod-lt, add-mod_right}
use Rattle.std.proofs.lemmas.Bool.{cases_lt, false_from_ne_true}
use Rattle.aeth_base.proofs.Members.{Contains-here}
use Rattle.aeth_slots.specs.SlotSet.{Ascends, IsNextSlot}
use Rattle.aeth_slots.proofs.Ascending.{Ascends-bounds}
use Rattle.aeth_server.specs.SlotCycles.{IsNextCycle}
use Rattle.aeth_server.proofs.SlotCycleLemmas.{is_slot-member, member-is_slot, same_slot-later}

-- The slot of a cycle within a turn from another, by that one's slot.
record IsAhead (size slot f d : ℕ) : Type 0 where
  near : f + d < size → slot ≡ f + d
  wrapped : size ≤ f + d → slot ≡ f + d - size

ahead : (size t d : ℕ) → 0 < size → d < size
    → IsAhead size ((t + d) % size) (t % size) d
ahead size t d some low =
    let below = mod-lt t some in
    let own : t % size ≡ t % size % size = sym (mod-eq_of_lt below) in
    let same = same_slot-later size t (t % size) d own in
    record {
      near = λ within. same ∙ mod-eq_of_lt within;
      wrapped = λ over.
          let whole : t % size + d ≡ (t % size + d - size) + size = omega arith in
          let rest : t % size + d - size < size = omega arith in
          same ∙ ap (λ n. n % size) whole ∙ add-mod_right (t % size + d - size) size
          ∙ mod-eq_of_lt rest;
    }

-- The least slot of all, where there is one.
first-slot : (slots : List ℕ) (first : Option ℕ) → IfSome first (IsNextSlot slots 0)
    → IfNone first ((other : ℕ) → Contains slots other → other < 0) → 1 ≤ length slots
    → IsNextSlot slots 0 (unwrap_or first 0)
first-slot slots (Some first) is none some = is
first-slot [] None is none some = absurd (omega arith)
first-slot (x ∷ xs) None is none some =
    let past = none x (Contains-here x xs) in absurd (omega arith)

module _ (size : ℕ) (slots : List ℕ) (t : ℕ) (some : 0 < size) (ascends : Ascends 0 size slots) where
  -- a slot at or after that of t, before which none is
  pub next-near : (s : ℕ) → IsNextSlot slots (t % size) s
      → IsNextCycle size slots t (t + (s - t % size))
  next-near s is =
      let bounds = Ascends-bounds 0 size slots ascends s is.member in
      let from = is.after in
      record {
        late = omega arith;
        near = omega (arith, bounds, from);
        none = λ v late early. false_from_ne_true _ (λ has.
            let member = member-is_slot size slots v has in
            let at = ahead size t (v - t) some (omega (arith, bounds, from)) in
            let whole : t + (v - t) ≡ v = omega arith in
            let place = ap (λ n. n % size) whole in
            let here : v % size ≡ t % size + (v - t) =
            sym place ∙ at.near (omega (arith, bounds, from)) in
            let most = is.least (v % size) member (omega (arith, here)) in
            omega (arith, most, here));
        here =
            let at = ahead size t (s - t % size) some (omega (arith, bounds, from)) in
            let here : (t + (s - t % size)) % size ≡ s =
            at.near (omega (arith, bounds, from)) ∙ omega (arith, from) in
            is_slot-member size slots (t + (s - t % size)) (rw here is.member);
      }

  -- where none is at or after it, the first slot of all
  next-wrapped : (s : ℕ) → IsNextSlot slots 0 s
      → ((other : ℕ) → Contains slots other → other < t % size)
      → IsNextCycle size slots t (t + (size - t % size) + s)
  next-wrapped s is past =
      let below = mod-lt t some in
      let before = past s is.member in
      record {
        late = omega arith;
        near = omega (arith, below, before);
        none = λ v late early. false_from_ne_true _ (λ has.
            let member = member-is_slot size slots v has in
            let at = ahead size t (v - t) some (omega (arith, below, before)) in
            let whole : t + (v - t) ≡ v = omega arith in
            let place = ap (λ n. n % size) whole in
            let high = past (v % size) member in
            let most = is.least (v % size) member (omega arith) in
            elim (cases_lt (t % size + (v - t)) size) [
              | inl near ↦
                  let here = sym place ∙ at.near near in omega (arith, here, high)
              | inr over ↦
                  let here = sym place ∙ at.wrapped over in
                  omega (arith, here, most, below)
            ]);
        here =
            let at = ahead size t (size - t % size + s) some (omega (arith, below, before)) in
            let whole : t + (size - t % size + s) ≡ t + (size - t % size) + s = omega arith in
            let here : (t + (size - t % size) + s) % size ≡ s =
            sym (ap (λ n. n % size) whole) ∙ at.wrapped (omega (arith, below))
            ∙ omega (arith, below) in
            is_slot-member size slots (t + (size - t % size) + s) (rw here is.member);
      }

  -- the same, by the least slot that was looked for
  pub next-past : (found : Option ℕ) (first : ℕ) → first ≡ unwrap_or found 0
      → IfSome found (IsNextSlot slots 0)
      → IfNone found ((other : ℕ) → Contains slots other → other < 0) → 1 ≤ length slots
      → ((other : ℕ) → Contains slots other → other < t % size)
      → IsNextCycle size slots t (t + (size - t % size) + first)
  next-past found first is least none has past =
      rw is (next-wrapped (unwrap_or found 0) (first-slot slots found least none has) past)
