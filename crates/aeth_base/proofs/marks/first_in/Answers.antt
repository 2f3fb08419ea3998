use Rattle.std.proofs.Common.{◌*◌, ◌/◌, ◌+◌, ◌-◌, arith, inl, inr}
use Rattle.std.proofs.lemmas.Bool.{cases_lt}
use Rattle.aeth_base.proofs.MarkLemmas.{bit_of-first, bit_of-lowest, mask-within}
use Rattle.aeth_base.specs.Marks.{numbers_of_mask}
use Rattle.aeth_base.proofs.marks.first_in.Goals as goal

-- No number before the first one of the mask is marked.
pub returns-then-mask-ne0-clause-none : goal.returns-then-mask-ne0-clause-none
returns-then-mask-ne0-clause-none c =
    λ number after below.
    let masks = c.args.masks.now in
    let place = c.loop-mask.place in
    let at = mask-within masks c.min.result (c.args.end / numbers_of_mask + 1 - c.min.result)
    c.loop-mask.mask-index place c.loop-mask-test.true (omega arith) in
    elim (cases_lt number (numbers_of_mask * place)) [
      | inl before ↦ c.loop-mask.invariant.none number after before
      | inr here ↦
          bit_of-lowest masks place number _ at
          (omega (arith, at, (c.type_inv.masks place).fits)) (omega (arith, c.if-mask-ne0.true))
          here below
    ]

-- This one is marked.
pub returns-then-mask-ne0-clause-found : goal.returns-then-mask-ne0-clause-found
returns-then-mask-ne0-clause-found c =
    λ below.
    let masks = c.args.masks.now in
    let place = c.loop-mask.place in
    let at = mask-within masks c.min.result (c.args.end / numbers_of_mask + 1 - c.min.result)
    c.loop-mask.mask-index place c.loop-mask-test.true (omega arith) in
    bit_of-first masks place _ at (omega (arith, at, (c.type_inv.masks place).fits))
    (omega (arith, c.if-mask-ne0.true))
