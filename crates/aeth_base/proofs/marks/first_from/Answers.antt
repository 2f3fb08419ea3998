use Rattle.std.proofs.Common.{◌*◌, ◌/◌, ◌+◌, inl, inr, arith}
use Rattle.std.proofs.lemmas.Bool.{cases_lt}
use Rattle.aeth_base.proofs.MarkLemmas.{bit_of-below, bit_of-found, bit_of-left}
use Rattle.aeth_base.specs.Marks.{numbers_of_mask}
use Rattle.aeth_base.proofs.marks.first_from.Goals as goal

-- No number before the first one of the mask is marked.
pub returns-then-rest-ne0-clause-none : goal.returns-then-rest-ne0-clause-none
returns-then-rest-ne0-clause-none c =
    λ number after below.
    bit_of-below c.args.masks.now c.args.from number
    (c.type_inv.masks (c.args.from / numbers_of_mask)).fits (omega (arith, c.if-rest-ne0.true))
    after below

-- None is in the mask, and none before the first one of the next masks.
pub returns-clause-none : goal.returns-clause-none
returns-clause-none c =
    λ number after below.
    elim (cases_lt number (numbers_of_mask * (c.args.from / numbers_of_mask + 1))) [
      | inl here ↦
          bit_of-left c.args.masks.now c.args.from number c.if-rest-ne0.false after here
      | inr behind ↦ c.first_in.ensures.none number behind below
    ]

-- The first one is marked.
pub returns-then-rest-ne0-clause-found : goal.returns-then-rest-ne0-clause-found
returns-then-rest-ne0-clause-found c =
    λ below.
    bit_of-found c.args.masks.now c.args.from
    (c.type_inv.masks (c.args.from / numbers_of_mask)).fits (omega (arith, c.if-rest-ne0.true))
