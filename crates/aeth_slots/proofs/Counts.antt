-- The number of a mask's ones is the length of their list.
use Rattle.std.proofs.Common.{ℕ, ◌+◌, ◌*◌, ◌/◌, ◌%◌, ◌^◌, ◌<◌, ◌≡◌, ◌∙◌, zero, suc, Bool, true}
use Rattle.std.proofs.Common.{false, cond, eqb, ◌∷◌, length, sym, refl, ap, arith, eqb-true}
use Rattle.std.proofs.lemmas.{Nat.ones_cat, Nat.Bits.bit_at-lt, Bool.eqb-false}
use Rattle.std.specs.Int.{bit_at, Count.ones}
use Rattle.aeth_slots.specs.{Bits.ones_from, BitLemmas.places-suc, BitLemmas.places-none}
use Rattle.aeth_slots.specs.{BitLemmas.places-all, SlotSet.Slots}
use Rattle.aeth_slots.proofs.Masks.{IsView, zero_bit}

bit-ones : (b : ℕ) → b < 2 → ones b ≡ b
unfolding ones
bit-ones zero bit = refl
bit-ones (suc zero) bit = refl
bit-ones (suc (suc b)) bit = absurd (omega arith)

ones-push : (high b : ℕ) → b < 2 → ones (high * 2 + b) ≡ ones high + b
ones-push high b bit = ones_cat 1 high b bit ∙ ap (λ k. ones high + k) (bit-ones b bit)

-- The list of the ones over some places is as long as these places have ones.
pub length-ones_from : (mask at n : ℕ) → length (ones_from mask at n) ≡ ones (mask / 2 ^ at % 2 ^ n)
unfolding ones
length-ones_from mask at zero = sym (ap ones (places-none (mask / 2 ^ at)))
length-ones_from mask at (suc n) =
    let rest : length (ones_from mask (at + 1) n) ≡ ones (mask / 2 ^ (at + 1) % 2 ^ n) =
    length-ones_from mask (at + 1) n in
    let places : mask / 2 ^ at % 2 ^ suc n ≡ (mask / 2 ^ (at + 1) % 2 ^ n) * 2 + bit_at mask at =
    places-suc mask at n in
    let bit : bit_at mask at < 2 = bit_at-lt mask at in
    let cases : (v : Bool) → eqb (bit_at mask at) 1 ≡ v
    → length (cond v (at ∷ ones_from mask (at + 1) n) (ones_from mask (at + 1) n))
    ≡ ones (mask / 2 ^ (at + 1) % 2 ^ n) + bit_at mask at =
    elim [
      | true ↦ λ is. let one = eqb-true _ _ is in omega (arith, rest, one)
      | false ↦ λ is. let none : bit_at mask at ≡ 0 =
          zero_bit (bit_at mask at) bit (eqb-false _ _ is) in omega (arith, rest, none)
    ]
    in cases (eqb (bit_at mask at) 1) refl
    ∙ sym (ap ones places ∙ ones-push (mask / 2 ^ (at + 1) % 2 ^ n) (bit_at mask at) bit)

-- The number of a mask's ones is the number of the slots that it stands for.
pub view-count : (size mask : ℕ) (set : Slots) → IsView size mask set → mask < 2 ^ size
    → ones mask ≡ length set.slots
view-count size mask set view small =
    sym (ap ones (places-all mask size small)) ∙ sym (length-ones_from mask 0 size)
    ∙ ap (λ (v : Slots). length v.slots) view
