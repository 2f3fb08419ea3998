-- Numbers of a comma list that are read digit by digit.
use Rattle.std.proofs.Common.{◌≡◌, ◌<◌, ◌≤◌, ◌+◌, ◌*◌, ◌^◌, ◌∙◌, ℕ, List, Some, None, length, take}
use Rattle.std.proofs.Common.{get_or, sym, ap, arith, nat_le, le-leb}
use Rattle.std.proofs.lemmas.{Bool.cond-true, Fmt.decimal-digits_value, Int.Digits.digits_more}
use Rattle.std.proofs.lemmas.{Int.Digits.digits_value_more, Str.Parse.numerals_by_value}
use Rattle.std.proofs.lemmas.{Str.Parse.tells_digits}
use Rattle.std.specs.{Char.digit_value, Str.Parse.AllDigits, Str.Parse.digits_value}
use Rattle.aeth_base.{specs.Number.IsLed, proofs.Numbers.number_of-decimal}
use Rattle.aeth_text.specs.{Fields.number_in, Limits.max_number}

-- The first bytes of a text are digits, and this is their number.
pub record IsReadTo (text : List ℕ) (i value : ℕ) : Type 0 where
  pub all_digits : AllDigits 10 (take i text)
  pub value_is : value ≡ digits_value 10 (take i text)

-- One more digit is read.
pub read-more : (text : List ℕ) (i value next : ℕ) → IsReadTo text i value → i < length text
    → digit_value (get_or text i 0) < 10 → next ≡ value * 10 + digit_value (get_or text i 0)
    → IsReadTo text (i + 1) next
read-more text i value next so_far within digit is = record {
  all_digits = digits_more 10 text i within so_far.all_digits digit;
  value_is = is ∙ ap (λ v. v * 10 + digit_value (get_or text i 0)) so_far.value_is
      ∙ sym (digits_value_more 10 text i within);
}

-- A word whose bytes were all read is a number.
pub number-front : (text : List ℕ) (i value : ℕ) → IsReadTo text i value → IsLed (take i text)
    → value ≤ max_number → number_in (take i text) ≡ Some value
unfolding number_in
number-front text i value so_far led within =
    let word = take i text in
    let small : value < 2 ^ 64 = omega (arith, within) in
    let fits : digits_value 10 word < 2 ^ 64 = rw (← so_far.value_is) small in
    let same = decimal-digits_value (numerals_by_value (AllDigits 10) tells_digits) word
    so_far.all_digits led.some led.led fits in
    rw (number_of-decimal (digits_value 10 word) word fits (sym same))
    (rw (← so_far.value_is)
    (cond-true (nat_le value max_number) (Some value) None (le-leb value max_number within)))
