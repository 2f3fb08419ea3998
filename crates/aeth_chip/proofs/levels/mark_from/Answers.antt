use Rattle.std.proofs.Common.{◌∙◌, ◌+◌, Some, ap, length-set, inl, inr, arith}
use Rattle.std.specs.Int.{trailing_zeros, w64}
use Rattle.aeth_base.proofs.Lists.{slice_get-slice_set_other}
use Rattle.aeth_chip.proofs.MaskLemmas.{lowest_bit, without-each, without-less, without-only}
use Rattle.aeth_chip.proofs.SpreadLemmas.{level-set}
use Rattle.aeth_chip.proofs.levels.mark_from.Goals as goal

pub overflow_add-base : goal.overflow_add-base
overflow_add-base c =
    let some = c.bits-test.true in
    let lowest = lowest_bit c.bits.rest (omega (arith, some)) c.bits.invariant.small in
    let base = c.requires.base in
    omega (arith, lowest.0, base)

pub offset_bounds-levels-base : goal.offset_bounds-levels-base
offset_bounds-levels-base c =
    let some = c.bits-test.true in
    let lowest = lowest_bit c.bits.rest (omega (arith, some)) c.bits.invariant.small in
    let base = c.requires.base in
    omega (arith, lowest.0, base)

-- Each place of the half has a level or none.
pub bounds-levels-base : goal.bounds-levels-base
bounds-levels-base c =
    let some = c.bits-test.true in
    let lowest = lowest_bit c.bits.rest (omega (arith, some)) c.bits.invariant.small in
    let within = c.requires.places _ (c.bits.invariant.left _ lowest.1) in
    let size = c.bits.invariant.size in
    omega (arith, within, size)

-- One place less is left.
pub bits-smaller : goal.bits-smaller
bits-smaller c =
    let some = c.bits-test.true in
    let lowest = lowest_bit c.bits.rest (omega (arith, some)) c.bits.invariant.small in
    without-less c.bits.rest (trailing_zeros w64 c.bits.rest) lowest.0 lowest.1

-- One more place got the level.
pub bits-preserved : goal.bits-preserved
bits-preserved c =
    let rest = c.bits.rest in
    let bit = trailing_zeros w64 rest in
    let place = c.args.base + bit in
    let kept = c.bits.invariant in
    let some = c.bits-test.true in
    let lowest = lowest_bit rest (omega (arith, some)) kept.small in
    let less = without-less rest bit lowest.0 lowest.1 in
    let within = c.requires.places bit (kept.left bit lowest.1) in
    let size = kept.size in
    record {
      small = omega (arith, less, kept.small);
      size = length-set c.bits.levels place (Some c.args.level) ∙ kept.size;
      left = λ i has. kept.left i (without-only rest bit i kept.small lowest.0 has).0;
      done = λ i has. elim (kept.done i has) [
        | inr early ↦ inr (level-set c.bits.levels place (c.args.base + i) c.args.level
            (omega (arith, within, size)) (inr early))
        | inl left ↦ elim (without-each rest bit i kept.small lowest.0 left) [
          | inl same ↦ inr (level-set c.bits.levels place (c.args.base + i) c.args.level
              (omega (arith, within, size)) (inl (ap (λ n. c.args.base + n) same)))
          | inr other ↦ inl other
        ]
      ];
      away = λ at apart.
          slice_get-slice_set_other c.bits.levels place at (Some c.args.level)
          (apart bit (kept.left bit lowest.1))
          ∙ kept.away at apart;
    }
