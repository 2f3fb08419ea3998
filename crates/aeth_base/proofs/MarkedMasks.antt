-- Laws of the marked numbers, mask by mask.
use Rattle.std.proofs.Common.{ℕ, ◌≡◌, ◌≢◌, ◌<◌, ◌≤◌, ◌+◌, ◌-◌, ◌*◌, ◌/◌, ◌%◌, ◌^◌, ◌∙◌, refl, sym}
use Rattle.std.proofs.Common.{ap, arith, inl, inr, true, false, List, [], ◌∷◌, eqb, filter, length}
use Rattle.std.proofs.Common.{length-set, set, slice_index, eq-eqb, ne_eqb, get_or-set_other}
use Rattle.std.proofs.Common.{get_or-set_same}
use Rattle.std.proofs.lemmas.{Bool.cases_eq, List.set-get_or, Nat.Bits.bit_at-trailing_zeros}
use Rattle.std.proofs.lemmas.{Nat.Bits.bit_at-zero}
use Rattle.std.specs.{Int.bit_at, Int.trailing_zeros, Int.w64, List.range_with_len}
use Rattle.aeth_base.specs.Marks.{bit_of, is_marked, marked_from, room_of}
use Rattle.aeth_base.proofs.MarkedLemmas.{filter-first, filter-skip}

-- The bits of a mask that was written, and those of the others.
pub bit_of-written : (masks : List ℕ) (place mask number : ℕ) → place < length masks
    → number / 64 ≡ place → bit_of (set masks place mask) number ≡ bit_at mask (number % 64)
bit_of-written masks place mask number within here =
    ap (λ n. bit_at (slice_index (set masks place mask) n) (number % 64)) here
    ∙ ap (λ n. bit_at n (number % 64)) (get_or-set_same masks place mask 0 within)

pub bit_of-elsewhere : (masks : List ℕ) (place mask number : ℕ) → number / 64 ≢ place
    → bit_of (set masks place mask) number ≡ bit_of masks number
bit_of-elsewhere masks place mask number apart =
    ap (λ n. bit_at n (number % 64)) (get_or-set_other masks place (number / 64) mask 0 apart)

-- Whether a number is marked, by its bit.
marked-one : (masks : List ℕ) (number : ℕ) → bit_of masks number ≡ 1
    → is_marked masks number ≡ true
marked-one masks number one = eq-eqb (bit_of masks number) 1 one

marked-zero : (masks : List ℕ) (number : ℕ) → bit_of masks number ≡ 0
    → is_marked masks number ≡ false
marked-zero masks number none = ne_eqb (bit_of masks number) 1 (λ one. omega (arith, none, one))

-- In a mask that is 0 no number is marked.
unmarked-in : (masks : List ℕ) (place number : ℕ) → place < length masks → number / 64 ≡ place
    → is_marked (set masks place 0) number ≡ false
unmarked-in masks place number within here =
    marked-zero (set masks place 0) number
    (bit_of-written masks place 0 number within here ∙ bit_at-zero (number % 64))

-- Behind a mask that is 0 the numbers of the next one follow.
pub marked_from-next : (masks : List ℕ) (place : ℕ) → place + 1 < length masks
    → marked_from (set masks place 0) (64 * place)
    ≡ marked_from (set masks (place + 1) (slice_index masks (place + 1))) (64 * (place + 1))
marked_from-next masks place within =
    let size = length-set masks place 0 in
    let behind = room_of masks - 64 * (place + 1) in
    let there : room_of (set masks place 0) - 64 * place ≡ 64 + behind = omega (arith, size, within) in
    let next : 64 * place + 64 ≡ 64 * (place + 1) = omega arith in
    rw (set-get_or masks (place + 1) 0)
    (ap (λ n. filter (is_marked (set masks place 0)) (range_with_len (64 * place) n)) there
    ∙ filter-skip (is_marked (set masks place 0)) (is_marked masks) (64 * place) 64 behind
    (λ n after below. unmarked-in masks place n (omega arith) (omega arith))
    (λ n after. ap (λ bit. eqb bit 1) (bit_of-elsewhere masks place 0 n (λ here. omega arith)))
    ∙ ap (λ n. filter (is_marked masks) (range_with_len n behind)) next)

-- Behind the last one none follow.
pub marked_from-last : (masks : List ℕ) (place : ℕ) → length masks ≤ place + 1
    → marked_from (set masks place 0) (64 * place) ≡ []
marked_from-last masks place past =
    let size = length-set masks place 0 in
    let count = room_of (set masks place 0) - 64 * place in
    let none : count ≡ count + 0 = omega arith in
    ap (λ n. filter (is_marked (set masks place 0)) (range_with_len (64 * place) n)) none
    ∙ filter-skip (is_marked (set masks place 0)) (is_marked (set masks place 0)) (64 * place) count 0
    (λ n after below.
    unmarked-in masks place n (omega (arith, size, below, after)) (omega (arith, size, below, after)))
    (λ n after. refl)

-- The lowest one of a mask comes first, and then those of the mask without it.
pub marked_from-first : (masks : List ℕ) (place mask left : ℕ) → place < length masks
    → mask < 2 ^ 64 → 0 < mask → bit_at left (trailing_zeros w64 mask) ≡ 0
    → ((bit : ℕ) → bit < 64 → bit ≢ trailing_zeros w64 mask → bit_at left bit ≡ bit_at mask bit)
    → marked_from (set masks place mask) (64 * place)
    ≡ (64 * place + trailing_zeros w64 mask) ∷ marked_from (set masks place left) (64 * place)
marked_from-first masks place mask left within small some gone kept =
    let zeros = trailing_zeros w64 mask in
    let lowest = bit_at-trailing_zeros w64 mask some small in
    let few : zeros < 64 = lowest.0 in
    let first = 64 * place + zeros in
    let size : length (set masks place mask) ≡ length masks = length-set masks place mask in
    let same : length (set masks place left) ≡ length masks = length-set masks place left in
    let count = room_of (set masks place mask) - 64 * place in
    let as_many : room_of (set masks place left) - 64 * place ≡ count = omega (arith, size, same) in
    let low : (n : ℕ) → 64 * place ≤ n → n < first → bit_at mask (n % 64) ≡ 0 =
    λ n after below. lowest.2 (n % 64) (omega (arith, few, after, below)) in
    filter-first (is_marked (set masks place mask)) (is_marked (set masks place left)) (64 * place)
    count first (omega arith) (omega (arith, few, size, within))
    (λ n after below.
    marked-zero (set masks place mask) n
    (bit_of-written masks place mask n within (omega (arith, few, after, below))
    ∙ low n after below))
    (marked-one (set masks place mask) first
    (bit_of-written masks place mask first within (omega (arith, few))
    ∙ ap (bit_at mask) (let bit : first % 64 ≡ zeros = omega (arith, few) in bit) ∙ lowest.1))
    (λ n after below.
    marked-zero (set masks place left) n
    (bit_of-written masks place left n within (omega (arith, few, after, below))
    ∙ elim (cases_eq n first) [
      | inl here ↦
          ap (bit_at left) (let bit : n % 64 ≡ zeros = omega (arith, few, here) in bit) ∙ gone
      | inr before ↦
          kept (n % 64) (omega arith) (λ here. omega (arith, few, after, below, before, here))
          ∙ low n after (omega arith)
    ]))
    (λ n after.
    ap (λ bit. eqb bit 1)
    (elim (cases_eq (n / 64) place) [
      | inl here ↦
          bit_of-written masks place mask n within here
          ∙ sym (kept (n % 64) (omega arith) (λ bit. omega (arith, after, here, bit)))
          ∙ sym (bit_of-written masks place left n within here)
      | inr apart ↦
          bit_of-elsewhere masks place mask n apart
          ∙ sym (bit_of-elsewhere masks place left n apart)
    ]))
    ∙ ap (λ n. first ∷ filter (is_marked (set masks place left)) (range_with_len (64 * place) n))
    (sym as_many)
