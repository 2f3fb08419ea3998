-- The mask that `rotate` makes: its bits, and the set that it stands for.
use Rattle.std.proofs.Common.{ℕ, max, ◌+◌, ◌-◌, ◌*◌, ◌/◌, ◌%◌, ◌^◌, ◌<◌, ◌≤◌, ◌≡◌, ◌∙◌, sym, refl}
use Rattle.std.proofs.Common.{ap, inl, inr, arith, bit_and, bit_or}
use Rattle.std.specs.Int.{bit_at, Width}
use mir.Val.{bits}
use Rattle.std.proofs.Math.Nat.{div-add-mod, add-mul-mod_self_left, add-mod_right, mod-eq_of_lt}
use Rattle.std.proofs.lemmas.Nat.{shr-shr, and_le_r, pow_pos}
use Rattle.std.proofs.lemmas.Nat.Bits.{bit_at-zero, bit_at-lt, bit_at_and, bit_at_or, bit_at_above}
use Rattle.std.proofs.lemmas.Nat.Bits.{bit_at_ones, bit_at_cat_low, bit_at_cat_high, ones_shr}
use Rattle.std.proofs.lemmas.Bool.{cases_lt}
use Rattle.aeth_slots.specs.Bits.{IsMask}
use Rattle.aeth_slots.specs.SlotSet.{Slots, rotated}
use Rattle.aeth_slots.proofs.SlotSetLemmas.{Contains-rotated}
use Rattle.aeth_slots.proofs.Ascending.{Ascends-ascending}
use Rattle.aeth_base.proofs.Members.{map-Contains}
use Rattle.aeth_slots.proofs.Masks.{IsView, view-is, view-member, member-view}

-- The place of a slot after a rotation, as the sum of the places or one table less.
turned : (s by size : ℕ) → (s + by) % size ≡ (s + by % size) % size
turned s by size =
    let whole : size * (by / size) + by % size ≡ by = div-add-mod by size in
    let split : (s + by % size) + size * (by / size) ≡ s + by = omega (arith, whole) in
    ap (λ k. k % size) (sym split) ∙ add-mul-mod_self_left (s + by % size) size (by / size)

turned_inside : (s by size : ℕ) → s + by % size < size → (s + by) % size ≡ s + by % size
turned_inside s by size below = turned s by size ∙ mod-eq_of_lt below

turned_past : (s t by size : ℕ) → t < size → s + by % size ≡ t + size → (s + by) % size ≡ t
turned_past s t by size below past =
    turned s by size ∙ ap (λ k. k % size) past ∙ add-mod_right t size ∙ mod-eq_of_lt below

-- A number that is cut to a width keeps its bits below the width.
bit_at-cut : (n w i : ℕ) → i < w → bit_at (n % 2 ^ w) i ≡ bit_at n i
bit_at-cut n w i below =
    let whole : 2 ^ w * (n / 2 ^ w) + n % 2 ^ w ≡ n = div-add-mod n (2 ^ w) in
    let split : n / 2 ^ w * 2 ^ w + n % 2 ^ w ≡ n = omega (arith, whole) in
    sym (bit_at_cat_low (n / 2 ^ w) w (n % 2 ^ w) i below) ∙ ap (λ k. bit_at k i) split

-- The bits of a mask that was shifted up, and cut to its width.
onward_low : (w : Width) (mask by i : ℕ) → i < bits w → i < by
    → bit_at (mask * 2 ^ by % 2 ^ bits w) i ≡ 0
onward_low w mask by i room low =
    let same : mask * 2 ^ by + 0 ≡ mask * 2 ^ by = omega arith in
    bit_at-cut (mask * 2 ^ by) (bits w) i room ∙ ap (λ k. bit_at k i) (sym same)
    ∙ bit_at_cat_low mask by 0 i low ∙ bit_at-zero i

onward_high : (w : Width) (mask by i : ℕ) → i < bits w → by ≤ i
    → bit_at (mask * 2 ^ by % 2 ^ bits w) i ≡ bit_at mask (i - by)
onward_high w mask by i room high =
    let same : mask * 2 ^ by + 0 ≡ mask * 2 ^ by = omega arith in
    bit_at-cut (mask * 2 ^ by) (bits w) i room ∙ ap (λ k. bit_at k i) (sym same)
    ∙ bit_at_cat_high mask by 0 i (pow_pos by) high

-- A bit of the part that is shifted down, past the end of the table.
wrapped_bit : (mask by size i : ℕ) → by < size
    → bit_at (mask / 2 ^ (size - 1 - by) / 2) i ≡ bit_at mask (i + size - by)
wrapped_bit mask by size i below =
    let place : ((size - 1 - by) + 1) + i ≡ i + size - by = omega arith in
    rw (shr-shr mask (size - 1 - by) 1, shr-shr mask ((size - 1 - by) + 1) i, place) refl

-- The mask of a rotation: what is shifted up, and what wraps, within the table.
abbrev pub turned_mask : Width → ℕ → ℕ → ℕ → ℕ
turned_mask w size mask by =
    bit_and (bit_or (mask * 2 ^ (by % size) % 2 ^ bits w) (mask / 2 ^ (size - 1 - by % size) / 2))
    ((2 ^ bits w - 1) / 2 ^ (bits w - size))

-- It is a mask of the table's slots.
pub turned-mask : (w : Width) (size mask by : ℕ) → size ≤ bits w → IsMask size mask
    → IsMask size (turned_mask w size mask by)
turned-mask w size mask by most is =
    let onward : ℕ = mask * 2 ^ (by % size) % 2 ^ bits w in
    let wrapped : ℕ = mask / 2 ^ (size - 1 - by % size) / 2 in
    let room : bits w - (bits w - size) ≡ size = omega arith in
    let all : (2 ^ bits w - 1) / 2 ^ (bits w - size) ≡ 2 ^ size - 1 =
    ones_shr (bits w) (bits w - size) (omega arith) ∙ ap (λ k. 2 ^ k - 1) room in
    record {
      some_size = is.some_size;
      within = is.within;
      below = omega (
        arith,
        all,
        pow_pos size,
        and_le_r (bit_or onward wrapped) ((2 ^ bits w - 1) / 2 ^ (bits w - size)),
      );
    }

-- A bit of it is the greater of the two parts' bits.
turned_bit : (w : Width) (size mask by i : ℕ) → size ≤ bits w → 1 ≤ size → i < size
    → bit_at (turned_mask w size mask by) i
    ≡ max (bit_at (mask * 2 ^ (by % size) % 2 ^ bits w) i) (bit_at mask (i + size - by % size))
turned_bit w size mask by i most some below =
    let onward : ℕ = mask * 2 ^ (by % size) % 2 ^ bits w in
    let wrapped : ℕ = mask / 2 ^ (size - 1 - by % size) / 2 in
    let place : bits w - (bits w - size) ≡ size = omega arith in
    let full : bit_at ((2 ^ bits w - 1) / 2 ^ (bits w - size)) i ≡ 1 =
    rw (ones_shr (bits w) (bits w - size) (omega arith), place) (bit_at_ones size i below) in
    omega (
      arith,
      bit_at_and (bit_or onward wrapped) ((2 ^ bits w - 1) / 2 ^ (bits w - size)) i,
      full,
      bit_at_or onward wrapped i,
      bit_at-lt onward i,
      bit_at-lt mask (i + size - by % size),
      wrapped_bit mask (by % size) size i (omega arith),
    )

-- It stands for the rotated set.
pub view-rotated : (w : Width) (size mask by : ℕ) (set : Slots) → IsView size mask set
    → mask < 2 ^ size → 1 ≤ size → size ≤ bits w
    → IsView size (turned_mask w size mask by) (rotated by set)
view-rotated w size mask by set view small some most =
    let sizes : size ≡ set.size = ap (λ (v : Slots). v.size) view in
    let turn : ℕ = by % size in
    let place : (s : ℕ) → (s + by) % set.size ≡ (s + by) % size =
    λ s. ap (λ k. (s + by) % k) (sym sizes) in
    view-is size (turned_mask w size mask by) (rotated by set) sizes
    (Ascends-ascending size _
    (λ t has. let found = map-Contains (λ s. (s + by) % set.size) set.slots t has in
    omega (arith, found.1, place found.0)))
    (λ t below one.
    let bit = turned_bit w size mask by t most some below in
    (Contains-rotated by set t).1 (elim (cases_lt t (by % size)) [
      | inl low ↦
          let is : bit_at mask (t + size - by % size) ≡ 1 =
          omega (arith, bit, one, onward_low w mask (by % size) t (omega arith) low) in
          let within : t + size - by % size < size = omega arith in (
            t + size - by % size,
            member-view size mask set view _ within is,
            sym (place _ ∙ turned_past (t + size - by % size) t by size below (omega arith)),
          )
      | inr high ↦
          let wraps : bit_at mask (t + size - by % size) ≡ 0 =
          bit_at_above mask size _ small (omega arith) in
          let is : bit_at mask (t - by % size) ≡ 1 =
          omega (arith, bit, one, wraps, onward_high w mask (by % size) t (omega arith) high) in
          let back : (t - by % size) + by % size ≡ t = omega arith in (
            t - by % size,
            member-view size mask set view _ (omega arith) is,
            sym (place _ ∙ turned_inside (t - by % size) by size (omega arith) ∙ back),
          )
    ]))
    (λ t has.
    let found = (Contains-rotated by set t).0 has in
    let s : ℕ = found.0 in
    let is = view-member size mask set view found.0 found.1 in
    let at : t ≡ (found.0 + by) % size = found.2 ∙ place found.0 in
    elim (cases_lt (found.0 + by % size) size) [
      | inl inside ↦
          let here : t ≡ found.0 + by % size = at ∙ turned_inside found.0 by size inside in
          let from : t - by % size ≡ found.0 = omega arith in
          let up = onward_high w mask (by % size) t (omega arith) (omega arith) in
          omega (
            arith,
            turned_bit w size mask by t most some (omega arith),
            up,
            ap (bit_at mask) from,
            is.1,
            bit_at-lt mask (t + size - by % size),
          )
      | inr past ↦
          let wraps : found.0 + by % size ≡ (found.0 + by % size - size) + size = omega arith in
          let here : t ≡ found.0 + by % size - size =
          at ∙ turned_past found.0 (found.0 + by % size - size) by size (omega (arith, is.0))
          wraps in
          let from : t + size - by % size ≡ found.0 = omega arith in
          omega (
            arith,
            turned_bit w size mask by t most some (omega (arith, is.0)),
            ap (bit_at mask) from,
            is.1,
            bit_at-lt (mask * 2 ^ (by % size) % 2 ^ bits w) t,
          )
    ])
