use Rattle.std.proofs.Common.{◌<◌, ◌*◌, ◌∙◌, ap, arith, inl, inr, length, set, sym}
use Rattle.std.proofs.lemmas.Bool.{cases_lt}
use Rattle.std.proofs.lemmas.Nat.Bits.{bit_at-trailing_zeros, bit_at_clear_other, bit_at_clear_same}
use Rattle.std.specs.Int.{trailing_zeros, w64}
use Rattle.aeth_base.specs.Marks.{marked_from}
use Rattle.aeth_base.proofs.MarkedMasks.{marked_from-first, marked_from-last, marked_from-next}
use Rattle.aeth_base.proofs.marked.Marked.take_first.Goals as goal

-- Behind a mask that is used up comes the next one.
pub loop-self-preserved : goal.loop-self-preserved
loop-self-preserved c =
    let it = c.loop-self.self-inside in
    let test = c.loop-self-test.true in
    record {
      view = sym (marked_from-next it.masks.now it.place (omega arith))
          ∙ ap (λ n. marked_from (set it.masks.now it.place n) (64 * it.place)) (sym test)
          ∙ c.loop-self.invariant.view;
      within = omega arith;
      none = λ past. absurd (omega arith);
      small = omega arith;
      few = c.loop-self.invariant.few;
    }

-- Behind the last mask none come.
pub returns-then-place-self : goal.returns-then-place-self
returns-then-place-self c =
    let it = c.loop-self.self-inside in
    let test = c.loop-self-test.true in
    let past = c.if-place-self.true in (
      c.loop-self.invariant.view,
      sym c.loop-self.invariant.view
          ∙ ap (λ n. marked_from (set it.masks.now it.place n) (64 * it.place)) test
          ∙ marked_from-last it.masks.now it.place (omega arith),
    )

-- The lowest one of the mask comes first.
pub returns : goal.returns
returns c =
    let it = c.loop-self.self-inside in
    let test = c.loop-self-test.false in
    let small = c.loop-self.invariant.small in
    let some : 0 < it.rest = omega (arith, test) in
    let lowest = bit_at-trailing_zeros w64 it.rest some small in
    let zeros = trailing_zeros w64 it.rest in
    let within : it.place < length it.masks.now = elim (cases_lt it.place (length it.masks.now)) [
      | inl below ↦ below
      | inr past ↦ absurd (omega (arith, some, c.loop-self.invariant.none past))
    ] in
    sym c.loop-self.invariant.view
    ∙ marked_from-first it.masks.now it.place it.rest _ within small some
    (bit_at_clear_same w64 it.rest zeros lowest.0)
    (λ bit below apart. bit_at_clear_other w64 it.rest zeros lowest.0 bit below apart)
