use Rattle.std.{proofs.Common.◌%◌, proofs.Common.◌∙◌, proofs.Common.arith, specs.Int.w64}
use Rattle.std.{proofs.lemmas.Nat.Bits.bit_at_set_other, proofs.lemmas.Nat.Bits.bit_at_set_same}
use Rattle.aeth_base.proofs.MarkLemmas.{bit_of-away, bit_of-here}
use Rattle.aeth_base.proofs.marks.mark.Goals as goal

-- The bit of the number is set.
pub returns-clause-here : goal.returns-clause-here
returns-clause-here c =
    let number = c.args.number in
    bit_of-here c.args.masks.now number _ (omega arith)
    ∙ bit_at_set_same w64 _ (number % 64) (omega arith)

-- No other bit changes.
pub returns-clause-away : goal.returns-clause-away
returns-clause-away c =
    λ other apart.
    let number = c.args.number in
    bit_of-away c.args.masks.now number _ other (omega arith)
    (λ bit within else. bit_at_set_other w64 _ (number % 64) (omega arith) bit else) apart
