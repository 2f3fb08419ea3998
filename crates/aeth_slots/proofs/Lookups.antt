-- Laws of look-ups in masks: the next slot after a place, and the first slot.
use Rattle.std.proofs.Common.{ℕ, ◌+◌, ◌-◌, ◌*◌, ◌/◌, ◌%◌, ◌^◌, ◌<◌, ◌≤◌, ◌≡◌, ◌≢◌, ◌∙◌, [], ◌∷◌}
use Rattle.std.proofs.Common.{Contains, sym, ap, subst, inl, inr, arith, bit_and}
use Rattle.std.specs.Int.{bit_at, bit_not, trailing_zeros, Width}
use mir.Val.{bits}
use Rattle.std.proofs.Math.Pow.{pow_mono}
use Rattle.std.proofs.Math.Nat.{lt_of_lt_of_le, lt_of_le_of_lt}
use Rattle.std.proofs.lemmas.Nat.{shr_le}
use Rattle.std.proofs.lemmas.Nat.Bits.{bit_at-zero, bit_at_above, bit_at_clear_same}
use Rattle.std.proofs.lemmas.Nat.Bits.{bit_at_clear_other, bit_at-trailing_zeros}
use Rattle.std.proofs.lemmas.Bool.{cases_eq, cases_lt}
use Rattle.aeth_slots.specs.Bits.{ones_from}
use Rattle.aeth_slots.specs.SlotSet.{Slots, IsNextSlot}
use Rattle.aeth_base.proofs.MarkLemmas.{bit_at-shift}
use Rattle.aeth_base.proofs.Members.{Contains-there, Contains-cases}
use Rattle.aeth_slots.proofs.Ascending.{Ascends-from, same_members}
use Rattle.aeth_slots.proofs.Masks.{Ascends-mask, Contains-ones, IsView, member-view, ones-Contains}
use Rattle.aeth_slots.proofs.Masks.{view-ascends, view-empty, view-member}

-- Past the size no slot follows.
pub none_past : (size mask from : ℕ) (set : Slots) → IsView size mask set → size ≤ from → (s : ℕ)
    → Contains set.slots s → s < from
none_past size mask from set view past s has =
    omega (arith, (view-member size mask set view s has).0)

-- A slot at or after another is a bit of the mask that was shifted down.
shifted-member : (size mask from : ℕ) (set : Slots) → IsView size mask set → (s : ℕ)
    → Contains set.slots s → from ≤ s → bit_at (mask / 2 ^ from) (s - from) ≡ 1
shifted-member size mask from set view s has after =
    let place : from + (s - from) ≡ s = omega arith in
    bit_at-shift mask from (s - from) ∙ ap (bit_at mask) place
    ∙ (view-member size mask set view s has).1

-- Where nothing is left of the mask no slot follows.
pub none_left : (size mask from : ℕ) (set : Slots) → IsView size mask set → mask / 2 ^ from ≡ 0
    → (s : ℕ) → Contains set.slots s → s < from
none_left size mask from set view left s has =
    elim (cases_lt s from) [
      | inl before ↦ before
      | inr after ↦
          absurd (omega (
            arith,
            shifted-member size mask from set view s has after,
            ap (λ m. bit_at m (s - from)) left,
            bit_at-zero (s - from),
          ))
    ]

-- The lowest one of what is left is the next slot.
pub next_slot_found : (w : Width) (size mask from : ℕ) (set : Slots) → IsView size mask set
    → mask < 2 ^ size → size ≤ bits w → 0 < mask / 2 ^ from
    → IsNextSlot set.slots from (from + trailing_zeros w (mask / 2 ^ from))
next_slot_found w size mask from set view small most some =
    let zeros : ℕ = trailing_zeros w (mask / 2 ^ from) in
    let wide : mask < 2 ^ bits w = lt_of_lt_of_le small (pow_mono most) in
    let lowest =
    bit_at-trailing_zeros w (mask / 2 ^ from) some (lt_of_le_of_lt (shr_le mask from) wide) in
    let one : bit_at mask (from + trailing_zeros w (mask / 2 ^ from)) ≡ 1 =
    sym (bit_at-shift mask from (trailing_zeros w (mask / 2 ^ from))) ∙ lowest.1 in
    let within : from + trailing_zeros w (mask / 2 ^ from) < size =
    elim (cases_lt (from + trailing_zeros w (mask / 2 ^ from)) size) [
      | inl below ↦ below
      | inr above ↦
          absurd (omega (
            arith,
            one,
            bit_at_above mask size (from + trailing_zeros w (mask / 2 ^ from)) small
                above,
          ))
    ] in
    record {
      member =
          member-view size mask set view (from + trailing_zeros w (mask / 2 ^ from)) within one;
      after = omega arith;
      least = λ s has after. elim (cases_lt s (from + trailing_zeros w (mask / 2 ^ from))) [
        | inl before ↦
            absurd (omega (
              arith,
              shifted-member size mask from set view s has after,
              lowest.2 (s - from) (omega arith),
            ))
        | inr enough ↦ enough
      ];
    }

-- The list of a view is its least slot and the list of the mask without this slot's bit.
pub first_slot_found : (w : Width) (size mask : ℕ) (set : Slots) → IsView size mask set
    → mask < 2 ^ size → size ≤ bits w → 0 < mask
    → set.slots ≡ trailing_zeros w mask
    ∷ ones_from (bit_and mask (bit_not w (1 * 2 ^ trailing_zeros w mask % 2 ^ bits w))) 0 size
first_slot_found w size mask set view small most some =
    let first : ℕ = trailing_zeros w mask in
    let cleared : ℕ = bit_and mask (bit_not w (1 * 2 ^ first % 2 ^ bits w)) in
    let lowest = bit_at-trailing_zeros w mask some (lt_of_lt_of_le small (pow_mono most)) in
    let within : first < size = elim (cases_lt first size) [
      | inl below ↦ below
      | inr above ↦ absurd (omega (arith, lowest.1, bit_at_above mask size first small above))
    ] in
    let room : first < bits w = lowest.0 in
    let none_here : (s : ℕ) → bit_at cleared s ≡ 1 → s ≢ first =
    λ s one same. omega
    (arith, bit_at_clear_same w mask first room, ap (bit_at cleared) same, one) in
    let kept : (s : ℕ) → s < size → s ≢ first → bit_at cleared s ≡ bit_at mask s =
    λ s below other. bit_at_clear_other w mask first room s (omega arith) other in
    let later : (s : ℕ) → Contains (ones_from cleared 0 size) s → first + 1 ≤ s = λ s has.
    let is = ones-Contains cleared 0 size s has in
    let other : s ≢ first = none_here s is.2 in
    elim (cases_lt s first) [
      | inl before ↦
          absurd (omega (arith, is.2, kept s (omega (arith, is.1)) other, lowest.2 s before))
      | inr after ↦ omega arith
    ] in
    same_members 0 size set.slots (first ∷ ones_from cleared 0 size)
    (view-ascends size mask set view) (
      omega arith,
      within,
      Ascends-from 0 (first + 1) size (ones_from cleared 0 size) later
          (Ascends-mask cleared size),
    )
    (λ s. (
      (λ has. let is = view-member size mask set view s has in elim (cases_eq first s) [
        | inl same ↦ (0, omega arith, same)
        | inr other ↦ Contains-there first (ones_from cleared 0 size) s
            (Contains-ones cleared 0 size s (omega arith) (omega (arith, is.0))
            (kept s is.0 (λ same. other (sym same)) ∙ is.1))
      ]),
      (λ has. elim (Contains-cases first (ones_from cleared 0 size) s has) [
        | inl same ↦ subst (Contains set.slots) same
            (member-view size mask set view first within lowest.1)
        | inr rest ↦ let is = ones-Contains cleared 0 size s rest in let below : s < size =
            omega (arith, is.1) in
            member-view size mask set view s below (sym (kept s below (none_here s is.2)) ∙ is.2)
      ]),
    ))

-- Where the mask is 0 there is no slot.
pub no_slot : (size mask : ℕ) (set : Slots) → IsView size mask set → mask ≡ 0 → set.slots ≡ []
no_slot size mask set view none =
    sym (ap (λ (v : Slots). v.slots) (subst (λ (m : ℕ). IsView size m set) none view))
    ∙ ap (λ (v : Slots). v.slots) (view-empty size)
