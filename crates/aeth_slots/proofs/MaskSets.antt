-- Laws of masks that are full, joined, or cut by others: the sets that they stand for.
use Rattle.std.proofs.Common.{ℕ, zero, suc, ◌⊎◌, ◌-◌, ◌/◌, ◌^◌, ◌<◌, ◌≤◌, ◌≡◌, ◌∙◌, Bool, not, max, min}
use Rattle.std.proofs.Common.{◌||◌, sym, ap, refl, inl, inr, arith, bit_and, bit_or}
use Rattle.std.specs.Int.{bit_at, bit_not, Width}
use mir.Val.{bits}
use Rattle.std.proofs.Math.Pow.{pow_pos, pow_mono}
use Rattle.std.proofs.Math.Nat.{lt_of_lt_of_le}
use Rattle.std.proofs.lemmas.Nat.{or_lt}
use Rattle.std.proofs.lemmas.Nat.Bits.{bit_at-lt, bit_at_and, bit_at_or, bit_at_not, bit_at_ones}
use Rattle.std.proofs.lemmas.Nat.Bits.{ones_shr}
use Rattle.std.proofs.lemmas.Bool.{or_cases, or_left, or_right, not_from_false, both_ways, not-true}
use Rattle.std.proofs.lemmas.Bool.{false_from_ne_true}
use Rattle.aeth_slots.specs.Bits.{IsMask}
use Rattle.aeth_base.specs.Limits.{max_slots}
use Rattle.aeth_slots.specs.SlotSet.{Slots, all_slots, has_slot, joined, without}
use Rattle.aeth_base.proofs.Members.{Contains-filter, filter-Contains}
use Rattle.aeth_slots.proofs.Ascending.{Ascends-bounds, Ascends-filter}
use Rattle.aeth_slots.proofs.Masks.{IsView, view-is, view-member, member-view, view-ascends}
use Rattle.aeth_slots.proofs.Masks.{zero_bit}
use Rattle.aeth_base.proofs.Ranges.{Contains-range}
use Rattle.aeth_slots.proofs.TestLemmas.{Ascends-slots, has_slot-Decides}
use Rattle.aeth_slots.proofs.TestLemmas.{Ascends-where, Contains-where}

-- Views of sets of one size are of one size.
pub same_size : (size mask size' mask' : ℕ) (set set' : Slots) → IsView size mask set
    → IsView size' mask' set' → set.size ≡ set'.size → size' ≡ size
same_size size mask size' mask' set set' view view' same =
    ap (λ (v : Slots). v.size) view' ∙ sym same ∙ sym (ap (λ (v : Slots). v.size) view)

-- The mask of all slots of a table.
abbrev pub full_mask : Width → ℕ → ℕ
full_mask w size = (2 ^ bits w - 1) / 2 ^ (bits w - size)

full-is : (w : Width) (size : ℕ) → size ≤ bits w → full_mask w size ≡ 2 ^ size - 1
full-is w size most =
    let room : bits w - (bits w - size) ≡ size = omega arith in
    ones_shr (bits w) (bits w - size) (omega arith) ∙ ap (λ k. 2 ^ k - 1) room

pub full-mask : (w : Width) (size : ℕ) → 1 ≤ size → size ≤ max_slots → size ≤ bits w
    → IsMask size (full_mask w size)
full-mask w size some within most = record {
  some_size = some;
  within = within;
  below = omega (arith, full-is w size most, pow_pos size);
}

-- It stands for all slots.
pub view-full : (w : Width) (size : ℕ) → size ≤ bits w
    → IsView size (full_mask w size) (all_slots size)
view-full w size most =
    view-is size (full_mask w size) (all_slots size) refl (Ascends-slots size)
    (λ s below one. Contains-range 0 size s (omega arith) (omega arith))
    (λ s has. let below = (Ascends-bounds 0 size _ (Ascends-slots size) s has).1 in
    ap (λ m. bit_at m s) (full-is w size most) ∙ bit_at_ones size s below)

-- The mask of the bits of either mask is a mask of the table's slots.
pub joined-mask : (size mask other : ℕ) → IsMask size mask → other < 2 ^ size
    → IsMask size (bit_or mask other)
joined-mask size mask other is below = record {
  some_size = is.some_size;
  within = is.within;
  below = or_lt size mask other is.below below;
}

one_of_two : (a b : ℕ) → a < 2 → max a b ≡ 1 → (a ≡ 1) ⊎ (b ≡ 1)
one_of_two zero b small is = inr (omega arith)
one_of_two (suc zero) b small is = inl refl
one_of_two (suc (suc a)) b small is = absurd (omega arith)

-- It stands for the slots of either set.
pub view-joined : (size mask other : ℕ) (set set' : Slots) → IsView size mask set
    → IsView size other set' → IsView size (bit_or mask other) (joined set set')
view-joined size mask other set set' view view' =
    let sizes : size ≡ set.size = ap (λ (v : Slots). v.size) view in
    let test : ℕ → Bool = λ s. has_slot set s || has_slot set' s in
    let bits_of : (s : ℕ) → bit_at (bit_or mask other) s ≡ max (bit_at mask s) (bit_at other s) =
    bit_at_or mask other in
    view-is size (bit_or mask other) (joined set set') sizes
    (rw sizes (Ascends-where set.size test))
    (λ s below one. let one_of : (bit_at mask s ≡ 1) ⊎ (bit_at other s ≡ 1) =
    one_of_two (bit_at mask s) (bit_at other s) (bit_at-lt mask s) (sym (bits_of s) ∙ one) in
    (Contains-where set.size test s).1 (
      omega (arith, sizes),
      elim one_of [
        | inl left ↦ or_left _ _
            ((has_slot-Decides set s).1 (member-view size mask set view s below left))
        | inr right ↦ or_right _ _
            ((has_slot-Decides set' s).1 (member-view size other set' view' s below right))
      ],
    ))
    (λ s has. let found = (Contains-where set.size test s).0 has in
    elim (or_cases (has_slot set s) (has_slot set' s) found.1) [
      | inl left ↦ omega (
        arith,
        bits_of s,
        (view-member size mask set view s ((has_slot-Decides set s).0 left)).1,
        bit_at-lt other s,
      )
      | inr right ↦ omega (
        arith,
        bits_of s,
        (view-member size other set' view' s ((has_slot-Decides set' s).0 right)).1,
        bit_at-lt mask s,
      )
    ])

-- The mask of the bits of the first mask that the other hasn't stands for the slots of the first set
-- that the other hasn't.
pub view-without : (w : Width) (size mask other : ℕ) (set set' : Slots) → size ≤ bits w
    → other < 2 ^ size → IsView size mask set → IsView size other set'
    → IsView size (bit_and mask (bit_not w other)) (without set set')
view-without w size mask other set set' most small view view' =
    let sizes : size ≡ set.size = ap (λ (v : Slots). v.size) view in
    let test : ℕ → Bool = λ s. not (has_slot set' s) in
    let wide : other < 2 ^ bits w = lt_of_lt_of_le small (pow_mono most) in
    let bits_of : (s : ℕ) → s < size
    → bit_at (bit_and mask (bit_not w other)) s ≡ min (bit_at mask s) (1 - bit_at other s) =
    λ s below. bit_at_and mask (bit_not w other) s
    ∙ ap (λ b. min (bit_at mask s) b) (bit_at_not w other s wide (omega arith)) in
    view-is size (bit_and mask (bit_not w other)) (without set set') sizes
    (Ascends-filter test 0 size set.slots (view-ascends size mask set view))
    (λ s below one. let bit = bits_of s below in Contains-filter test set.slots s
    (member-view size mask set view s below (omega (arith, bit_at-lt mask s)))
    (not_from_false _ (false_from_ne_true (has_slot set' s) (λ has. absurd (omega (
      arith,
      (view-member size other set' view' s ((has_slot-Decides set' s).0 has)).1,
    ))))))
    (λ s has. let found = filter-Contains test set.slots s has in
    let is = view-member size mask set view s found.0 in
    let none : bit_at other s ≡ 1 → ⊥ = λ one. both_ways (has_slot set' s)
    (not-true _ found.1)
    ((has_slot-Decides set' s).1 (member-view size other set' view' s is.0 one)) in
    let small' = bit_at-lt other s in
    omega (arith, bits_of s is.0, is.1, zero_bit (bit_at other s) small' none))
