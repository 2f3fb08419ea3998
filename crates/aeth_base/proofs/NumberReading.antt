-- How the canonical decimal of a number is read: digit by digit, and not where another `0` leads.
use Rattle.std.proofs.Common.{ℕ, ◌+◌, ◌*◌, ◌^◌, ◌<◌, ◌≡◌, ◌∙◌, ◌&&◌, cond, ltb, List, length, take}
use Rattle.std.proofs.Common.{get_or, Some, None, sym, ap, subst, arith, inl, inr, lt-ltb, ltb-true}
use Rattle.std.proofs.Common.{take_all}
use Rattle.std.proofs.lemmas.Bool.{and_from, and_parts, cases_Bool, cases_eq, cond-true}
use Rattle.std.proofs.lemmas.Fmt.{decimal-digits_value, decimal_digit, decimal_is_IsNumeral}
use Rattle.std.proofs.lemmas.Fmt.{decimal_nonempty, first_decimal}
use Rattle.std.proofs.lemmas.Int.Digits.{digits_more, digits_value_more}
use Rattle.std.proofs.lemmas.Option.{none-some, same_Some}
use Rattle.std.proofs.lemmas.Str.{digit_value_digit, Parse.digit_at, Parse.digits_value-take-le}
use Rattle.std.proofs.lemmas.Str.{Parse.numerals_by_value, Parse.tells_digits}
use Rattle.std.specs.{Char.digit_value, Fmt.decimal, Str.Parse.AllDigits, Str.Parse.digits_value}
use Rattle.aeth_base.specs.Number.{IsLed, number_of, with_digit}
use Rattle.aeth_base.proofs.Numbers.{number_of-decimal, number_of-none}

-- The first bytes of a text are digits, and this is their number of 64 bits.
pub record IsReadTo (text : List ℕ) (i value : ℕ) : Type 0 where
  pub all_digits : AllDigits 10 (take i text)
  pub value_is : value ≡ digits_value 10 (take i text)
  pub small : value < 2 ^ 64

-- What a further digit makes of a number.
record Next (value byte next : ℕ) : Type 0 where
  digit : digit_value byte < 10
  is : next ≡ value * 10 + digit_value byte
  small : next < 2 ^ 64

next-some : (value byte next : ℕ) → with_digit value byte ≡ Some next → Next value byte next
next-some value byte next is =
    let more = value * 10 + digit_value byte in
    let fits = ltb (digit_value byte) 10 && ltb more (2 ^ 64) in
    elim (cases_Bool fits) [
      | inl passes ↦
          let parts = and_parts (ltb (digit_value byte) 10) (ltb more (2 ^ 64)) passes in
          let same = same_Some next more (sym is ∙ cond-true fits (Some more) None passes) in
          let low = ltb-true more (2 ^ 64) parts.1 in
          record {
            digit = ltb-true (digit_value byte) 10 parts.0;
            is = same;
            small = omega arith;
          }
      | inr fails ↦ absurd (none-some next (sym (ap (λ b. cond b (Some more) None) fails) ∙ is))
    ]

next-from : (value byte : ℕ) → digit_value byte < 10 → value * 10 + digit_value byte < 2 ^ 64
    → with_digit value byte ≡ Some (value * 10 + digit_value byte)
next-from value byte digit small =
    let more = value * 10 + digit_value byte in
    cond-true (ltb (digit_value byte) 10 && ltb more (2 ^ 64)) (Some more) None
    (and_from (ltb (digit_value byte) 10) (ltb more (2 ^ 64)) (lt-ltb (digit_value byte) 10 digit)
    (lt-ltb more (2 ^ 64) small))

-- One more byte of a text is read.
pub read-next : (text : List ℕ) (i value next : ℕ) → IsReadTo text i value → i < length text
    → with_digit value (get_or text i 0) ≡ Some next → IsReadTo text (i + 1) next
read-next text i value next so_far within is =
    let made = next-some value (get_or text i 0) next is in
    record {
      all_digits = digits_more 10 text i within so_far.all_digits made.digit;
      value_is = made.is ∙ ap (λ v. v * 10 + digit_value (get_or text i 0)) so_far.value_is
          ∙ sym (digits_value_more 10 text i within);
      small = made.small;
    }

-- What is read on from the decimal of a number.
on-decimal : (text : List ℕ) (i value n : ℕ) → IsReadTo text i value → i < length text
    → n < 2 ^ 64 → text ≡ decimal n
    → with_digit value (get_or text i 0) ≡ Some (value * 10 + digit_value (get_or text i 0))
on-decimal text i value n so_far within small is_text =
    let numeral = decimal_is_IsNumeral n small in
    let digits = subst (AllDigits 10) (sym is_text) numeral.0.1 in
    let number : digits_value 10 text ≡ n = ap (digits_value 10) is_text ∙ numeral.1 in
    let in_range = digit_at text i digits within in
    let digit = digit_value_digit (get_or text i 0) in_range in
    let more = digits_value_more 10 text i within in
    let most = digits_value-take-le 10 text (i + 1) (omega arith) in
    let same : value * 10 + digit_value (get_or text i 0) ≡ digits_value 10 (take (i + 1) text) =
    ap (λ v. v * 10 + digit_value (get_or text i 0)) so_far.value_is ∙ sym more in
    next-from value (get_or text i 0) (omega (arith, in_range, digit)) (omega arith)

-- A byte that isn't read on is in no number's decimal.
pub read-fails : (text : List ℕ) (i value : ℕ) → IsReadTo text i value → i < length text
    → with_digit value (get_or text i 0) ≡ None → number_of text ≡ None
read-fails text i value so_far within fails =
    number_of-none text (λ n small is_text.
    none-some _ (sym fails ∙ on-decimal text i value n so_far within small is_text))

-- A text whose bytes are all read is the decimal of the number.
pub read-all : (text : List ℕ) (value : ℕ) → IsLed text → IsReadTo text (length text) value
    → number_of text ≡ Some value
read-all text value led so_far =
    let small = so_far.small in
    let whole = take_all (length text) text (omega arith) in
    let digits = subst (AllDigits 10) whole so_far.all_digits in
    let number : value ≡ digits_value 10 text = so_far.value_is ∙ ap (digits_value 10) whole in
    let fits : digits_value 10 text < 2 ^ 64 = omega arith in
    number_of-decimal value text small
    (sym (ap decimal number ∙ decimal-digits_value (numerals_by_value (AllDigits 10) tells_digits)
    text digits led.some led.led fits))

-- The decimal of a number has no `0` in front of others.
led-decimal : (n : ℕ) → n < 2 ^ 64 → IsLed (decimal n)
led-decimal n small = record {
  some = decimal_nonempty n small;
  led = λ zero. elim (cases_eq n 0) [
    | inl none ↦ ap (λ k. length (decimal k)) none ∙ ap length (decimal_digit 0 (omega arith))
    | inr more ↦ absurd (let first = first_decimal n (omega arith) small in omega arith)
  ];
}

-- A text that isn't led so is no number's.
pub not_led-none : (text : List ℕ) → (IsLed text → ⊥) → number_of text ≡ None
not_led-none text not_led =
    number_of-none text (λ n small is_text.
    not_led (subst IsLed (sym is_text) (led-decimal n small)))
