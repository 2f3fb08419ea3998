-- The law by which a slot set gives its mask back: the mask of the places of a mask's ones is
-- the mask. It stands beside the definitions, since the type's model cites it.
use Rattle.std.proofs.Common.{ℕ, ◌+◌, ◌*◌, ◌/◌, ◌%◌, ◌^◌, ◌<◌, ◌≡◌, ◌∙◌, zero, suc, Bool, true}
use Rattle.std.proofs.Common.{false, cond, eqb, List, ◌∷◌, sym, refl, ap, arith, zero-mul, shr-shr}
use Rattle.std.proofs.Common.{pow-add}
use Rattle.std.proofs.Math.{Nat.mod-eq_of_lt, Numerals.add-one}
use Rattle.std.proofs.lemmas.{Nat.mod-pow-add, Nat.Bits.bit_at-lt, Bool.Decides.nat_tests}
use Rattle.std.specs.Int.{bit_at}
use Rattle.aeth_slots.specs.Bits.{ones_from, mask_of}

-- Some places of a mask are its first bit there and the places above.
pub places-suc : (mask at n : ℕ)
    → mask / 2 ^ at % 2 ^ suc n ≡ (mask / 2 ^ (at + 1) % 2 ^ n) * 2 + bit_at mask at
places-suc mask at n =
    rw (← add-one n) (rw (mod-pow-add (mask / 2 ^ at) n 1, shr-shr mask at 1) refl)

-- Over no place a mask is 0.
pub places-none : (n : ℕ) → n % 2 ^ 0 ≡ 0
places-none n = let none : n % 1 ≡ 0 = omega arith in none

-- Over all its places a mask is itself.
pub places-all : (mask size : ℕ) → mask < 2 ^ size → mask / 2 ^ 0 % 2 ^ size ≡ mask
places-all mask size small = let all : mask / 1 ≡ mask = omega arith in rw all (mod-eq_of_lt small)

mask_of-cond : (b : Bool) (x : ℕ) (xs : List ℕ)
    → mask_of (cond b (x ∷ xs) xs) ≡ cond b (2 ^ x + mask_of xs) (mask_of xs)
mask_of-cond true x xs = refl
mask_of-cond false x xs = refl

-- The value of the places above, and of one bit more.
weighed : (bit high weight rest : ℕ) → bit < 2 → rest ≡ high * (weight * 2)
    → cond (eqb bit 1) (weight + rest) rest ≡ (high * 2 + bit) * weight
weighed bit high weight rest small is = grind (arith, nat_tests)

-- The mask of the ones over some places has these places of the mask.
pub mask_of-ones_from : (mask at n : ℕ)
    → mask_of (ones_from mask at n) ≡ (mask / 2 ^ at % 2 ^ n) * 2 ^ at
mask_of-ones_from mask at zero =
    sym (ap (λ r. r * 2 ^ at) (places-none (mask / 2 ^ at)) ∙ zero-mul (2 ^ at))
mask_of-ones_from mask at (suc n) =
    let high : ℕ = mask / 2 ^ (at + 1) % 2 ^ n in
    let above : mask_of (ones_from mask (at + 1) n) ≡ high * (2 ^ at * 2) =
    mask_of-ones_from mask (at + 1) n ∙ ap (λ p. high * p) (pow-add 2 at 1) in
    mask_of-cond (eqb (bit_at mask at) 1) at (ones_from mask (at + 1) n)
    ∙ weighed (bit_at mask at) high (2 ^ at) (mask_of (ones_from mask (at + 1) n))
    (bit_at-lt mask at) above
    ∙ sym (ap (λ p. p * 2 ^ at) (places-suc mask at n))

-- The mask of the places of a mask's ones is the mask.
pub mask_of-ones : (size mask : ℕ) → mask < 2 ^ size → mask_of (ones_from mask 0 size) ≡ mask
mask_of-ones size mask small =
    mask_of-ones_from mask 0 size ∙ ap (λ k. k * 2 ^ 0) (places-all mask size small) ∙ omega arith
