-- What shifts and masks make of a word.
use Rattle.std.proofs.Common.{◌≡◌, ℕ, ◌+◌, ◌-◌, ◌*◌, ◌%◌, ◌^◌, ◌<◌, bit_and, bit_or}
use Rattle.std.proofs.Math.Nat.{mod-eq_of_lt}
use Rattle.std.proofs.lemmas.Nat.{one_shl, and_mask, or_shifted}

-- `word & ((1 << bits) - 1)`.
pub and_ones : (word bits : ℕ) → bits < 32
    → bit_and word (1 * 2 ^ bits % 2 ^ 32 - 1) ≡ word % 2 ^ bits
and_ones word bits below = rw (one_shl bits 32 below, and_mask word bits)

-- `(word << bits) | field`.
pub or_above : (word bits field : ℕ) → word * 2 ^ bits < 2 ^ 32 → field < 2 ^ bits
    → bit_or (word * 2 ^ bits % 2 ^ 32) field ≡ word * 2 ^ bits + field
or_above word bits field room fits = rw (mod-eq_of_lt room) (or_shifted word bits field fits)
