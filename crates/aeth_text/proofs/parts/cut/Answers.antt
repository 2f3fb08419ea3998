use Rattle.std.proofs.Common.{arith}
use Rattle.aeth_text.proofs.Cuts.{free_further, parts_at, parts_none}
use Rattle.aeth_text.proofs.parts.cut.Goals as goal

-- No byte is before the first.
pub loop-place-init : goal.loop-place-init
loop-place-init c = λ k less. absurd (omega (arith, less))

-- One more byte is no separator.
pub loop-place-preserved : goal.loop-place-preserved
loop-place-preserved c =
    free_further c.args.separator c.args.text.now c.loop-place.place c.loop-place.invariant
    c.if-text-place.false

-- The first part ends at the first separator.
pub returns-then-text-place-clause-some : goal.returns-then-text-place-clause-some
returns-then-text-place-clause-some c =
    parts_at c.args.separator c.args.text.now c.loop-place.place c.loop-place-test.true
    c.loop-place.invariant c.if-text-place.true

-- Without one the text is the only part.
pub returns-clause-none : goal.returns-clause-none
returns-clause-none c =
    parts_none c.args.separator c.args.text.now c.loop-place.place c.loop-place-test.false
    c.loop-place.invariant
