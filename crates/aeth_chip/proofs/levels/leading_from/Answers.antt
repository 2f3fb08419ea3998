use Rattle.std.proofs.Common.{◌+◌, ℕ, subst, inl, inr, arith, slice_index}
use Rattle.std.specs.Int.{trailing_zeros, w64}
use Rattle.aeth_chip.specs.Levels.{IsOrigin}
use Rattle.aeth_chip.proofs.MaskLemmas.{or_bit-cases, or_bit-left, or_bit-right, without-each}
use Rattle.aeth_chip.proofs.MaskLemmas.{lowest_bit, without-less, without-only}
use Rattle.aeth_chip.proofs.levels.leading_from.Goals as goal

pub overflow_add-set : goal.overflow_add-set
overflow_add-set c =
    let some = c.bits-test.true in
    let lowest = lowest_bit c.bits.rest (omega (arith, some)) c.bits.invariant.small in
    let base = c.requires.base in
    omega (arith, lowest.0, base)

pub offset_bounds-origins-base : goal.offset_bounds-origins-base
offset_bounds-origins-base c =
    let some = c.bits-test.true in
    let lowest = lowest_bit c.bits.rest (omega (arith, some)) c.bits.invariant.small in
    let base = c.requires.base in
    omega (arith, lowest.0, base)

-- Each place of the half has a set.
pub bounds-origins-base : goal.bounds-origins-base
bounds-origins-base c =
    let some = c.bits-test.true in
    let lowest = lowest_bit c.bits.rest (omega (arith, some)) c.bits.invariant.small in
    c.requires.places _ (c.bits.invariant.left _ lowest.1)

-- One place less is left.
pub bits-smaller : goal.bits-smaller
bits-smaller c =
    let some = c.bits-test.true in
    let lowest = lowest_bit c.bits.rest (omega (arith, some)) c.bits.invariant.small in
    without-less c.bits.rest (trailing_zeros w64 c.bits.rest) lowest.0 lowest.1

-- What leads to one more place is in the set.
pub bits-preserved : goal.bits-preserved
bits-preserved c =
    let rest = c.bits.rest in
    let bit = trailing_zeros w64 rest in
    let kept = c.bits.invariant in
    let some = c.bits-test.true in
    let lowest = lowest_bit rest (omega (arith, some)) kept.small in
    let less = without-less rest bit lowest.0 lowest.1 in
    let set = slice_index c.args.origins.now (c.args.base + bit) in
    record {
      small = omega (arith, less, kept.small);
      left = λ i has. kept.left i (without-only rest bit i kept.small lowest.0 has).0;
      only = λ from has. elim (or_bit-cases c.bits.set set from has) [
        | inl early ↦ kept.only from early
        | inr now ↦ (bit, kept.left bit lowest.1, now)
      ];
      each = λ from i has leads. elim (kept.each from i has leads) [
        | inr early ↦ inr (or_bit-left c.bits.set set from early)
        | inl left ↦ elim (without-each rest bit i kept.small lowest.0 left) [
          | inl same ↦ inr (or_bit-right c.bits.set set from
              (subst (λ (n : ℕ). IsOrigin c.args.origins.now from (c.args.base + n)) same leads))
          | inr other ↦ inl other
        ]
      ];
    }
