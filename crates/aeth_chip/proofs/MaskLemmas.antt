-- Laws of sets of places that are masks.
use Rattle.std.proofs.Common.{◌≡◌, ◌≢◌, ◌⊎◌, ◌∙◌, ◌+◌, ◌-◌, ◌*◌, ◌/◌, ◌%◌, ◌^◌, ◌<◌, ◌≤◌, ℕ, List}
use Rattle.std.proofs.Common.{sym, ap, subst, inl, inr, arith, bit_and, bit_or, zero-add}
use Rattle.std.specs.Int.{bit_at, bit_not, trailing_zeros, w64, w128}
use mir.Val.{bits}
use Rattle.std.proofs.lemmas.Bool.{cases_eq, cases_lt}
use Rattle.std.proofs.lemmas.Nat.{and_le_l, one_shl}
use Rattle.std.proofs.lemmas.Nat.Bits.{bit_at-lt, bit_at-pow_other, bit_at-pow_same}
use Rattle.std.proofs.lemmas.Nat.Bits.{bit_at-trailing_zeros, bit_at_and}
use Rattle.std.proofs.lemmas.Nat.Bits.{bit_at_above, bit_at_not, bit_at_ones, bit_at_ones_above}
use Rattle.std.proofs.lemmas.Nat.Bits.{bit_at_or}
use Rattle.std.proofs.lemmas.Nat.Bits.{bit_at_cat_high, bit_at_cat_low, bit_at_clear_other}
use Rattle.std.proofs.lemmas.Nat.Bits.{bit_at_clear_same}
use Rattle.aeth_chip.specs.Levels.{HasBit, IsLedFrom, IsOrigin, LeadsTo, half_places}

-- A place is in a set or not.
pub bit-cases : (set place : ℕ) → HasBit set place ⊎ (bit_at set place ≡ 0)
bit-cases set place = elim (cases_eq (bit_at set place) 1) [
  | inl one ↦ inl one
  | inr other ↦ inr (omega (arith, bit_at-lt set place, other))
]

-- What two sets have together.
pub or_bit-cases : (a b place : ℕ) → HasBit (bit_or a b) place → HasBit a place ⊎ HasBit b place
or_bit-cases a b place has = elim (bit-cases a place) [
  | inl one ↦ inl one
  | inr none ↦ inr (omega (arith, bit_at_or a b place, has, none))
]

pub or_bit-left : (a b place : ℕ) → HasBit a place → HasBit (bit_or a b) place
or_bit-left a b place has = omega (arith, bit_at_or a b place, has, bit_at-lt b place)

pub or_bit-right : (a b place : ℕ) → HasBit b place → HasBit (bit_or a b) place
or_bit-right a b place has = omega (arith, bit_at_or a b place, has, bit_at-lt a place)

-- What two sets have in common.
pub and_bit-left : (a b place : ℕ) → HasBit (bit_and a b) place → HasBit a place
and_bit-left a b place has =
    omega (arith, bit_at_and a b place, has, bit_at-lt a place, bit_at-lt b place)

pub and_bit-right : (a b place : ℕ) → HasBit (bit_and a b) place → HasBit b place
and_bit-right a b place has =
    omega (arith, bit_at_and a b place, has, bit_at-lt a place, bit_at-lt b place)

pub and_bit-both : (a b place : ℕ) → HasBit a place → HasBit b place
    → HasBit (bit_and a b) place
and_bit-both a b place has other = omega (arith, bit_at_and a b place, has, other)

-- A mask is its halves.
halves : (set : ℕ) → set / 2 ^ half_places * 2 ^ half_places + set % 2 ^ half_places ≡ set
halves set = omega arith

low_bit : (set i : ℕ) → i < half_places → bit_at (set % 2 ^ half_places) i ≡ bit_at set i
low_bit set i within =
    sym (bit_at_cat_low (set / 2 ^ half_places) half_places (set % 2 ^ half_places) i within)
    ∙ ap (λ n. bit_at n i) (halves set)

high_bit : (set i : ℕ) → bit_at (set / 2 ^ half_places) i ≡ bit_at set (half_places + i)
high_bit set i =
    let back : half_places + i - half_places ≡ i = omega arith in
    ap (bit_at (set / 2 ^ half_places)) (sym back)
    ∙ sym (bit_at_cat_high (set / 2 ^ half_places) half_places (set % 2 ^ half_places) (half_places + i) (omega arith) (omega arith))
    ∙ ap (λ n. bit_at n (half_places + i)) (halves set)

-- A place of the lower half has a bit of it.
pub low-has : (set i : ℕ) → HasBit (set % 2 ^ half_places) i → (i < half_places) × HasBit set i
low-has set i has = elim (cases_lt i half_places) [
  | inl low ↦ (low, sym (low_bit set i low) ∙ has)
  | inr far ↦ absurd
      (omega (arith, has, bit_at_above (set % 2 ^ half_places) half_places i (omega arith) far))
]

pub has-low : (set i : ℕ) → i < half_places → HasBit set i → HasBit (set % 2 ^ half_places) i
has-low set i low has = low_bit set i low ∙ has

-- A place of the upper half too.
pub high-has : (set i : ℕ) → HasBit (set / 2 ^ half_places) i → HasBit set (half_places + i)
high-has set i has = sym (high_bit set i) ∙ has

pub has-high : (set place : ℕ) → half_places ≤ place → HasBit set place
    → HasBit (set / 2 ^ half_places) (place - half_places)
has-high set place high has =
    let back : half_places + (place - half_places) ≡ place = omega arith in
    high_bit set (place - half_places) ∙ ap (bit_at set) back ∙ has

-- What leads to the halves of a set.
pub led-halves : (origins : List ℕ) (set low high from : ℕ)
    → IsLedFrom low from ((i : ℕ) × HasBit (set % 2 ^ half_places) i × IsOrigin origins from (0 + i))
    → IsLedFrom high from ((i : ℕ) × HasBit (set / 2 ^ half_places) i × IsOrigin origins from (half_places + i))
    → IsLedFrom (bit_or low high) from (LeadsTo origins set from)
led-halves origins set low high from lower upper = (
  λ has. elim (or_bit-cases low high from has) [
    | inl one ↦
        let (i, bit, leads) = lower.0 one in
        (i, (low-has set i bit).1, subst (IsOrigin origins from) (zero-add i) leads)
    | inr one ↦ let (i, bit, leads) = upper.0 one in (half_places + i, high-has set i bit, leads)
  ],
  λ (to, bit, leads). elim (cases_lt to half_places) [
    | inl below ↦ or_bit-left low high from (lower.1 (
      to,
      has-low set to below bit,
      subst (IsOrigin origins from) (sym (zero-add to)) leads,
    ))
    | inr above ↦
        let back : to ≡ half_places + (to - half_places) = omega arith in
        or_bit-right low high from
        (upper.1 (to - half_places, has-high set to above bit, subst (IsOrigin origins from) back leads))
  ],
)

-- The lowest bit of a half of a mask.
pub lowest_bit : (rest : ℕ) → 0 < rest → rest < 2 ^ half_places
    → (trailing_zeros w64 rest < half_places) × HasBit rest (trailing_zeros w64 rest)
lowest_bit rest some small =
    let lowest = bit_at-trailing_zeros w64 rest some small in (lowest.0, lowest.1)

-- A half of a mask without a bit.
abbrev pub without_bit : ℕ → ℕ → ℕ
without_bit rest bit = bit_and rest (bit_not w64 (1 * 2 ^ bit % 2 ^ bits w64))

-- It has the others.
pub without-only : (rest bit i : ℕ) → rest < 2 ^ half_places → bit < half_places → HasBit (without_bit rest bit) i
    → HasBit rest i × (i ≢ bit)
without-only rest bit i small within has =
    elim (cases_lt i half_places) [
      | inl low ↦ elim (cases_eq i bit) [
        | inl same ↦
            let gone = ap (bit_at (without_bit rest bit)) same
            ∙ bit_at_clear_same w64 rest bit within in
            absurd (omega (arith, has, gone))
        | inr other ↦ (sym (bit_at_clear_other w64 rest bit within i low other) ∙ has, other)
      ]
      | inr far ↦
          let fewer = and_le_l rest (bit_not w64 (1 * 2 ^ bit % 2 ^ bits w64)) in
          let none = bit_at_above (without_bit rest bit) half_places i (omega (arith, fewer, small)) far in
          absurd (omega (arith, has, none))
    ]

pub without-each : (rest bit i : ℕ) → rest < 2 ^ half_places → bit < half_places → HasBit rest i
    → (i ≡ bit) ⊎ HasBit (without_bit rest bit) i
without-each rest bit i small within has =
    elim (cases_lt i half_places) [
      | inl low ↦ elim (cases_eq i bit) [
        | inl same ↦ inl same
        | inr other ↦ inr (bit_at_clear_other w64 rest bit within i low other ∙ has)
      ]
      | inr far ↦ absurd (omega (arith, has, bit_at_above rest half_places i small far))
    ]

-- It is less.
pub without-less : (rest bit : ℕ) → bit < half_places → HasBit rest bit → without_bit rest bit < rest
without-less rest bit within has =
    elim (cases_lt (without_bit rest bit) rest) [
      | inl less ↦ less
      | inr most ↦
          let fewer = and_le_l rest (bit_not w64 (1 * 2 ^ bit % 2 ^ bits w64)) in
          let same : without_bit rest bit ≡ rest = omega (arith, fewer, most) in
          let gone = ap (λ n. bit_at n bit) (sym same) ∙ bit_at_clear_same w64 rest bit within in
          absurd (omega (arith, has, gone))
    ]

-- The set of one place.
pub one_place-has : (place : ℕ) → place < 128 → HasBit (1 * 2 ^ place % 2 ^ 128) place
one_place-has place within =
    ap (λ n. bit_at n place) (one_shl place 128 within) ∙ bit_at-pow_same place

pub one_place-only : (place other : ℕ) → place < 128 → HasBit (1 * 2 ^ place % 2 ^ 128) other
    → other ≡ place
one_place-only place other within has = elim (cases_eq other place) [
  | inl same ↦ same
  | inr apart ↦
      let none = ap (λ n. bit_at n other) (one_shl place 128 within)
      ∙ bit_at-pow_other place other apart in
      absurd (omega (arith, has, none))
]

-- The set of the places before one.
pub before-has : (end place : ℕ) → end < 128 → place < end
    → HasBit (1 * 2 ^ end % 2 ^ 128 - 1) place
before-has end place within before =
    ap (λ n. bit_at (n - 1) place) (one_shl end 128 within) ∙ bit_at_ones end place before

pub before-only : (end place : ℕ) → end < 128 → HasBit (1 * 2 ^ end % 2 ^ 128 - 1) place
    → place < end
before-only end place within has = elim (cases_lt place end) [
  | inl before ↦ before
  | inr behind ↦
      let none = ap (λ n. bit_at (n - 1) place) (one_shl end 128 within)
      ∙ bit_at_ones_above end place behind in
      absurd (omega (arith, has, none))
]

-- The places that a set hasn't.
pub not-has : (set place : ℕ) → set < 2 ^ 128 → place < 128 → bit_at set place ≡ 0
    → HasBit (bit_not w128 set) place
not-has set place small within none = omega (arith, bit_at_not w128 set place small within, none)

pub not-only : (set place : ℕ) → set < 2 ^ 128 → place < 128 → HasBit (bit_not w128 set) place
    → bit_at set place ≡ 0
not-only set place small within has = omega (arith, bit_at_not w128 set place small within, has)

-- The set of all places.
pub all-has : (place : ℕ) → place < 128 → HasBit (2 ^ 128 - 1) place
all-has place within = bit_at_ones 128 place within
