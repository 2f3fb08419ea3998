use Rattle.std.proofs.Common.{◌≡◌, ◌<◌, ◌∙◌, length, sym, subst, rules, arith}
use Rattle.std.proofs.lemmas.Bool.{false≢true}
use Rattle.aeth_base.proofs.NumberReading.{IsReadTo, read-next, read-fails, read-all, not_led-none}
use Rattle.aeth_base.proofs.number.read_number.Goals as goal

-- The text is led otherwise than a number's.
pub returns-then-not-is_led : goal.returns-then-not-is_led
returns-then-not-is_led c = sym (not_led-none c.args.text.now
    (λ led. false≢true (sym c.if-not-is_led.true ∙ c.is_led.ensures.1 led)))

-- Nothing is read yet.
pub digits-init : goal.digits-init
digits-init c = search rules

-- A byte isn't read on.
pub returns-in_err-value : goal.returns-in_err-value
returns-in_err-value c =
    let within : c.digits.i < length c.args.text.now = omega (arith, c.digits-test.true) in
    c.from_residual.ensures
    ∙ sym (read-fails c.args.text.now c.digits.i c.digits.value c.digits.invariant within
    (sym c.with_digit.ensures ∙ c.in_err-value.was))

-- A byte is read.
pub digits-preserved : goal.digits-preserved
digits-preserved c =
    let within : c.digits.i < length c.args.text.now = omega (arith, c.digits-test.true) in
    read-next c.args.text.now c.digits.i c.digits.value c.in_ok-value.value c.digits.invariant
    within (sym c.with_digit.ensures ∙ c.in_ok-value.was)

-- All bytes are read.
pub returns : goal.returns
returns c =
    let text = c.args.text.now in
    let size : c.digits.i ≡ length text = omega (arith, c.digits-test.false) in
    sym (read-all text c.digits.value (c.is_led.ensures.0 c.if-not-is_led.false)
    (subst (λ i. IsReadTo text i c.digits.value) size c.digits.invariant))
