use Rattle.std.proofs.Common.{◌≡◌, Some, take, subst, sym, arith, take_all}
use Rattle.aeth_base.specs.Number.{IsLed}
use Rattle.aeth_text.specs.{Fields.number_in, Limits.comma}
use Rattle.aeth_text.proofs.Cuts.{free_further, parts_at, parts_none}
use Rattle.aeth_text.proofs.NumberWords.{number-front, read-more}
use Rattle.aeth_text.proofs.numbers.short_number.Goals as goal

-- The word ends at the first comma.
pub returns-then-list-i-eq44-clause-words : goal.returns-then-list-i-eq44-clause-words
returns-then-list-i-eq44-clause-words c =
    parts_at comma c.args.list.now c.digits.i (omega (arith, c.digits-test.true))
    c.digits.invariant.free c.if-list-i-eq44.true

pub returns-then-list-i-eq44-clause-number : goal.returns-then-list-i-eq44-clause-number
returns-then-list-i-eq44-clause-number c =
    number-front c.args.list.now c.digits.i c.digits.value c.digits.invariant.read
    (c.is_led.ensures.0 c.if-not-is_led.false) c.digits.invariant.within

-- One more byte is a digit.
pub digits-preserved : goal.digits-preserved
digits-preserved c =
    let list = c.args.list.now in
    let i = c.digits.i in
    record {
      free = free_further comma list i c.digits.invariant.free c.if-list-i-eq44.false;
      read = read-more list i c.digits.value c.in_ok-value.value c.digits.invariant.read
          (omega (arith, c.digits-test.true)) c.in_ok-value.ensures.digit
          c.in_ok-value.ensures.number;
      within = c.in_ok-value.ensures.within;
    }

-- Without a comma the list is one word.
pub returns-clause-words : goal.returns-clause-words
returns-clause-words c =
    parts_none comma c.args.list.now c.digits.i (omega (arith, c.digits-test.false))
    c.digits.invariant.free

pub returns-clause-number : goal.returns-clause-number
returns-clause-number c =
    let list = c.args.list.now in
    let whole : take c.digits.i list ≡ list =
    take_all c.digits.i list (omega (arith, c.digits-test.false)) in
    subst (λ word. number_in word ≡ Some c.digits.value) whole
    (number-front list c.digits.i c.digits.value c.digits.invariant.read
    (subst IsLed (sym whole) (c.is_led-2.ensures.0 c.if-not-is_led-2.false))
    c.digits.invariant.within)
