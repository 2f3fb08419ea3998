-- Slots that come within a gap, and the same slots so many cycles later.
use Rattle.std.proofs.Common.{ℕ, ◌+◌, ◌-◌, ◌*◌, ◌/◌, ◌%◌, ◌<◌, ◌≤◌, ◌≡◌, ◌∙◌, true, eqb, List, []}
use Rattle.std.proofs.Common.{◌∷◌, Contains, sym, ap, subst, inl, inr, arith, eqb-true}
use Rattle.std.proofs.Math.Nat.{add-mod_right, add-mul-mod_self_left, div-add-mod, mod-add-mod}
use Rattle.std.proofs.Math.Nat.{mod-eq_of_lt, mod-lt}
use Rattle.std.proofs.lemmas.Bool.{cases_lt}
use Rattle.aeth_base.proofs.Members.{Contains-cases, Contains-nil}
use Rattle.aeth_slots.specs.SlotSet.{Ascends, IsSlotSet, Slots, cyclic_distances, distances, gap_of}
use Rattle.aeth_slots.specs.SlotSet.{greatest}
use Rattle.aeth_slots.proofs.Ascending.{Ascends-bounds}
use Rattle.aeth_server.{specs.SlotCycles.is_slot, proofs.SingleWord.HasSlot}
use Rattle.aeth_group.proofs.ListLemmas.{passes_from_any}

-- From a cycle on some slot comes within the gap.
pub record Comes (size : ℕ) (slots : List ℕ) (gap from : ℕ) : Type 0 where
  pub cycle : ℕ
  pub after : from ≤ cycle
  pub by : cycle < from + gap
  pub member : Contains slots (cycle % size)

-- Where a slot comes within the gap from each cycle on, no slot is farther from the next.
module _ (size gap first : ℕ) (all : List ℕ) (each : (x : ℕ) → Contains all x → first ≤ x)
    (comes : (from : ℕ) → Comes size all gap from) where
  next-near : (s : ℕ) (rest : List ℕ) → first ≤ s → s < size → Ascends (s + 1) size rest
      → ((x : ℕ) → Contains all x → s < x → Contains rest x)
      → greatest (distances s rest (first + size)) ≤ gap
  next-near s [] low below asc later =
      let on = comes (s + 1) in
      elim (cases_lt on.cycle (first + size)) [
        | inl before ↦ elim (cases_lt on.cycle size) [
          | inl inside ↦
              let has = subst (Contains all) (mod-eq_of_lt inside) on.member in
              Contains-nil (later on.cycle has (omega (arith, on.after)))
          | inr past ↦
              let turn : on.cycle ≡ (on.cycle - size) + size = omega (arith, past) in
              let same : on.cycle % size ≡ on.cycle - size =
              ap (λ n. n % size) turn ∙ add-mod_right (on.cycle - size) size
              ∙ mod-eq_of_lt (omega (arith, before, low, below)) in
              let its = each (on.cycle - size) (subst (Contains all) same on.member) in
              absurd (omega (arith, its, before, past))
        ]
        | inr far ↦ omega (arith, far, on.by)
      ]
  next-near s (y ∷ ys) low below (after, inside, asc) later =
      let on = comes (s + 1) in
      let reached : y ≤ on.cycle = elim (cases_lt on.cycle size) [
        | inl within ↦
            let has = later on.cycle (subst (Contains all) (mod-eq_of_lt within) on.member)
            (omega (arith, on.after)) in
            (Ascends-bounds y size (y ∷ ys) (omega arith, inside, asc) on.cycle has).0
        | inr past ↦ omega (arith, past, inside)
      ] in
      let on' = next-near y ys (omega (arith, low, after)) inside asc
      (λ x has above. elim (Contains-cases y ys x (later x has (omega (arith, above, after)))) [
        | inl same ↦ absurd (omega (arith, same, above))
        | inr there ↦ there
      ]) in
      omega (arith, on', reached, on.by)

pub gap-near : (set : Slots) (gap : ℕ) → IsSlotSet set
    → ((from : ℕ) → Comes set.size set.slots gap from) → gap_of set ≤ gap
gap-near set gap is comes =
    let go : (slots : List ℕ) → Ascends 0 set.size slots
    → ((from : ℕ) → Comes set.size slots gap from)
    → greatest (cyclic_distances set.size slots) ≤ gap =
    elim [
      | [] ↦ λ asc comes. Contains-nil (comes 0).member
      | (first ∷ rest) ↦ λ asc comes.
          next-near set.size gap first (first ∷ rest)
          (λ x has. elim (Contains-cases first rest x has) [
            | inl same ↦ omega (arith, same)
            | inr there ↦
                let bounds = Ascends-bounds (first + 1) set.size rest asc.2 x there in
                omega (arith, bounds.0)
          ])
          comes first rest (omega arith) asc.1 asc.2
          (λ x has above. elim (Contains-cases first rest x has) [
            | inl same ↦ absurd (omega (arith, same, above))
            | inr there ↦ there
          ])
    ]
    in go set.slots is.ascends comes

slot-member : (size : ℕ) (slots : List ℕ) (t : ℕ) → is_slot size slots t ≡ true
    → Contains slots (t % size)
slot-member size slots t is =
    let found = passes_from_any (λ x. eqb (t % size) x) slots is in
    subst (Contains slots) (sym (eqb-true _ _ found.passes)) found.is_in

-- Slots that are those of another list so many cycles later: where one comes within the gap, one of
-- the other does.
pub moved-comes : (size after gap : ℕ) (slots others : List ℕ) → 1 ≤ size
    → ((x : ℕ) → Contains slots x → Contains others ((x + after) % size))
    → ((from : ℕ) → HasSlot size slots from gap) → (from : ℕ) → Comes size others gap from
moved-comes size after gap slots others some moved has from =
    let back : ℕ = size - after % size in
    let whole : back + after ≡ size + size * (after / size) =
    omega (arith, div-add-mod after size, mod-lt after {m = size} (omega (arith, some))) in
    let on = has (from + back) in
    let cycle : ℕ = on.cycle - back in
    let sum : on.cycle + after ≡ (cycle + size) + size * (after / size) =
    omega (arith, whole, on.from) in
    let same : (on.cycle % size + after) % size ≡ cycle % size =
    mod-add-mod on.cycle size after ∙ ap (λ n. n % size) sum
    ∙ add-mul-mod_self_left (cycle + size) size (after / size) ∙ add-mod_right cycle size in
    record {
      cycle = cycle;
      after = omega (arith, on.from);
      by = omega (arith, on.from, on.by);
      member = subst (Contains others) same
          (moved (on.cycle % size) (slot-member size slots on.cycle on.slot));
    }
