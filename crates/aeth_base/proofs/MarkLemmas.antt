-- Laws of masks: what a write of one mask changes, and the first bit that is left of one.
use Rattle.std.proofs.Common.{ℕ, ◌≡◌, ◌≢◌, ◌<◌, ◌≤◌, ◌+◌, ◌-◌, ◌*◌, ◌/◌, ◌%◌, ◌^◌, ◌∙◌, refl, sym}
use Rattle.std.proofs.Common.{ap, arith, inl, inr, List, drop, length, replicate, set, take}
use Rattle.std.proofs.Common.{slice_index, get_or-drop, get_or-set_other, get_or-set_same}
use Rattle.std.proofs.Common.{get_or-take, length-take, shr-shr}
use Rattle.std.proofs.Math.Nat.{lt_of_le_of_lt}
use Rattle.std.proofs.lemmas.{Bool.cases_eq, Bool.cases_lt, List.get_or-replicate, List.get_or_past}
use Rattle.std.proofs.lemmas.{List.length-replicate, Nat.shr_le, Nat.Bits.bit_at-zero}
use Rattle.std.proofs.lemmas.{Nat.Bits.bit_at_above, Nat.Bits.bit_at-trailing_zeros}
use Rattle.std.specs.Int.{bit_at, trailing_zeros, w64}
use Rattle.aeth_base.specs.Marks.{bit_of, numbers_of_mask}

-- A mask is written at a number's place: the bits of its own mask are the new ones, and all others
-- as they were.
pub bit_of-here : (masks : List ℕ) (number mask : ℕ) → number / numbers_of_mask < length masks
    → bit_of (set masks (number / numbers_of_mask) mask) number ≡ bit_at mask (number % numbers_of_mask)
bit_of-here masks number mask within =
    ap (λ n. bit_at n (number % numbers_of_mask))
    (get_or-set_same masks (number / numbers_of_mask) mask 0 within)

pub bit_of-away : (masks : List ℕ) (number mask other : ℕ) → number / numbers_of_mask < length masks
    → ((bit : ℕ) → bit < numbers_of_mask → bit ≢ number % numbers_of_mask
    → bit_at mask bit ≡ bit_at (slice_index masks (number / numbers_of_mask)) bit)
    → other ≢ number
    → bit_of (set masks (number / numbers_of_mask) mask) other ≡ bit_of masks other
bit_of-away masks number mask other within same apart =
    elim (cases_eq (other / numbers_of_mask) (number / numbers_of_mask)) [
      | inl place ↦
          let bit = other % numbers_of_mask in
          let bits : bit ≢ number % numbers_of_mask = λ same_bit. apart (omega arith) in
          let to : bit_of (set masks (number / numbers_of_mask) mask) other ≡ bit_at mask bit =
          ap (λ p. bit_at (slice_index (set masks (number / numbers_of_mask) mask) p) bit) place
          ∙ ap (λ n. bit_at n bit)
          (get_or-set_same masks (number / numbers_of_mask) mask 0 within) in
          let from : bit_at (slice_index masks (number / numbers_of_mask)) bit ≡ bit_of masks other =
          ap (λ p. bit_at (slice_index masks p) bit) (sym place) in
          to ∙ same bit (omega arith) bits ∙ from
      | inr else ↦
          ap (λ n. bit_at n (other % numbers_of_mask))
          (get_or-set_other masks (number / numbers_of_mask) (other / numbers_of_mask) mask 0 else)
    ]

-- A bit of a mask that was shifted down.
pub bit_at-shift : (mask s i : ℕ) → bit_at (mask / 2 ^ s) i ≡ bit_at mask (s + i)
bit_at-shift mask s i = rw (shr-shr mask s i) refl

-- Below the lowest one of what is left of a mask there is none.
pub none-below : (mask from bit : ℕ) → mask < 2 ^ 64 → 0 < mask / 2 ^ from → from ≤ bit
    → bit < from + trailing_zeros w64 (mask / 2 ^ from) → bit_at mask bit ≡ 0
none-below mask from bit small some after below =
    let lowest = bit_at-trailing_zeros w64 (mask / 2 ^ from) some
    (lt_of_le_of_lt (shr_le mask from) small) in
    let place : from + (bit - from) ≡ bit = omega arith in
    ap (bit_at mask) (sym place) ∙ sym (bit_at-shift mask from (bit - from))
    ∙ lowest.2 (bit - from) (omega arith)

-- The lowest one is within the mask.
pub lowest-within : (mask from : ℕ) → mask < 2 ^ 64 → 0 < mask / 2 ^ from
    → from + trailing_zeros w64 (mask / 2 ^ from) < numbers_of_mask
lowest-within mask from small some =
    let lowest = bit_at-trailing_zeros w64 (mask / 2 ^ from) some
    (lt_of_le_of_lt (shr_le mask from) small) in
    let one : bit_at mask (from + trailing_zeros w64 (mask / 2 ^ from)) ≡ 1 =
    sym (bit_at-shift mask from (trailing_zeros w64 (mask / 2 ^ from))) ∙ lowest.1 in
    elim (cases_lt (from + trailing_zeros w64 (mask / 2 ^ from)) numbers_of_mask) [
      | inl below ↦ below
      | inr above ↦
          absurd (omega (
            arith,
            one,
            bit_at_above mask numbers_of_mask (from + trailing_zeros w64 (mask / 2 ^ from)) small above,
          ))
    ]

-- Where nothing is left of a mask, no bit from there on is one.
pub none-left : (mask from bit : ℕ) → mask / 2 ^ from ≡ 0 → from ≤ bit → bit_at mask bit ≡ 0
none-left mask from bit none after =
    let place : from + (bit - from) ≡ bit = omega arith in
    ap (bit_at mask) (sym place) ∙ sym (bit_at-shift mask from (bit - from))
    ∙ ap (λ n. bit_at n (bit - from)) none ∙ bit_at-zero (bit - from)

-- No number from a number on is marked before the lowest one of what is left of its mask.
pub bit_of-below : (masks : List ℕ) (from number : ℕ)
    → slice_index masks (from / numbers_of_mask) < 2 ^ 64
    → 0 < slice_index masks (from / numbers_of_mask) / 2 ^ (from % numbers_of_mask) → from ≤ number
    → number < from
    + trailing_zeros w64 (slice_index masks (from / numbers_of_mask) / 2 ^ (from % numbers_of_mask))
    → bit_of masks number ≡ 0
bit_of-below masks from number small some after below =
    let mask = slice_index masks (from / numbers_of_mask) in
    let within = lowest-within mask (from % numbers_of_mask) small some in
    let place : number / numbers_of_mask ≡ from / numbers_of_mask = omega arith in
    ap (λ p. bit_at (slice_index masks p) (number % numbers_of_mask)) place
    ∙ none-below mask (from % numbers_of_mask) (number % numbers_of_mask) small some (omega arith)
    (omega arith)

-- None is within its mask, where nothing is left of this.
pub bit_of-left : (masks : List ℕ) (from number : ℕ)
    → slice_index masks (from / numbers_of_mask) / 2 ^ (from % numbers_of_mask) ≡ 0 → from ≤ number
    → number < numbers_of_mask * (from / numbers_of_mask + 1) → bit_of masks number ≡ 0
bit_of-left masks from number none after below =
    let place : number / numbers_of_mask ≡ from / numbers_of_mask = omega arith in
    ap (λ p. bit_at (slice_index masks p) (number % numbers_of_mask)) place
    ∙ none-left (slice_index masks (from / numbers_of_mask)) (from % numbers_of_mask)
    (number % numbers_of_mask) none (omega arith)

-- A mask of a part of the masks, by its place among all.
pub mask-within : (masks : List ℕ) (from count index place : ℕ)
    → index < length (take count (drop from masks)) → place ≡ from + index
    → slice_index masks place ≡ slice_index (take count (drop from masks)) index
mask-within masks from count index place within at =
    let few : index < count = omega (arith, within, length-take count (drop from masks)) in
    ap (slice_index masks) at ∙ sym (get_or-drop from masks index 0)
    ∙ sym (get_or-take count (drop from masks) index 0 few)

-- No number of a mask is marked before its lowest one.
pub bit_of-lowest : (masks : List ℕ) (place number mask : ℕ) → slice_index masks place ≡ mask
    → mask < 2 ^ 64 → 0 < mask → numbers_of_mask * place ≤ number
    → number < numbers_of_mask * place + trailing_zeros w64 mask → bit_of masks number ≡ 0
bit_of-lowest masks place number mask at small some after below =
    let lowest = bit_at-trailing_zeros w64 mask some small in
    let few : trailing_zeros w64 mask < numbers_of_mask = lowest.0 in
    let there : number / numbers_of_mask ≡ place = omega arith in
    ap (λ p. bit_at (slice_index masks p) (number % numbers_of_mask)) there
    ∙ ap (λ n. bit_at n (number % numbers_of_mask)) at
    ∙ lowest.2 (number % numbers_of_mask) (omega arith)

-- The lowest one of what is left of a mask is marked.
pub bit_of-found : (masks : List ℕ) (from : ℕ)
    → slice_index masks (from / numbers_of_mask) < 2 ^ 64
    → 0 < slice_index masks (from / numbers_of_mask) / 2 ^ (from % numbers_of_mask)
    → bit_of masks (from
    + trailing_zeros w64 (slice_index masks (from / numbers_of_mask) / 2 ^ (from % numbers_of_mask)))
    ≡ 1
bit_of-found masks from small some =
    let mask = slice_index masks (from / numbers_of_mask) in
    let zeros = trailing_zeros w64 (mask / 2 ^ (from % numbers_of_mask)) in
    let within : from % numbers_of_mask + zeros < numbers_of_mask =
    lowest-within mask (from % numbers_of_mask) small some in
    let lowest = bit_at-trailing_zeros w64 (mask / 2 ^ (from % numbers_of_mask)) some
    (lt_of_le_of_lt (shr_le mask (from % numbers_of_mask)) small) in
    let there : (from + zeros) / numbers_of_mask ≡ from / numbers_of_mask = omega arith in
    let bit : (from + zeros) % numbers_of_mask ≡ from % numbers_of_mask + zeros = omega arith in
    ap (λ p. bit_at (slice_index masks p) ((from + zeros) % numbers_of_mask)) there
    ∙ ap (bit_at mask) bit ∙ sym (bit_at-shift mask (from % numbers_of_mask) zeros) ∙ lowest.1

-- So is the lowest one of a mask.
pub bit_of-first : (masks : List ℕ) (place mask : ℕ) → slice_index masks place ≡ mask
    → mask < 2 ^ 64 → 0 < mask → bit_of masks (numbers_of_mask * place + trailing_zeros w64 mask) ≡ 1
bit_of-first masks place mask at small some =
    let zeros = trailing_zeros w64 mask in
    let lowest = bit_at-trailing_zeros w64 mask some small in
    let few : zeros < numbers_of_mask = lowest.0 in
    let there : (numbers_of_mask * place + zeros) / numbers_of_mask ≡ place = omega arith in
    let bit : (numbers_of_mask * place + zeros) % numbers_of_mask ≡ zeros = omega arith in
    ap (λ p. bit_at (slice_index masks p) ((numbers_of_mask * place + zeros) % numbers_of_mask)) there
    ∙ ap (λ n. bit_at n ((numbers_of_mask * place + zeros) % numbers_of_mask)) at
    ∙ ap (bit_at mask) bit ∙ lowest.1

-- Where all masks are 0, no number is marked.
pub bit_of-zeros : (count number : ℕ) → bit_of (replicate count 0) number ≡ 0
bit_of-zeros count number =
    let size : length (replicate {A = ℕ} count 0) ≡ count = length-replicate count 0 in
    let none : slice_index (replicate count 0) (number / numbers_of_mask) ≡ 0 =
    elim (cases_lt (number / numbers_of_mask) count) [
      | inl within ↦ get_or-replicate count (number / numbers_of_mask) 0 0 within
      | inr past ↦ get_or_past (replicate count 0) (number / numbers_of_mask) 0 (omega arith)
    ] in
    ap (λ n. bit_at n (number % numbers_of_mask)) none ∙ bit_at-zero (number % numbers_of_mask)
