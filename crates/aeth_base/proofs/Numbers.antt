-- Laws of `number_of`: it is the inverse of `decimal`.
use Rattle.std.proofs.Common.{ℕ, ◌^◌, ◌<◌, ◌≡◌, ◌∙◌, Bool, true, false, ◌&&◌, cond, ltb, List, Some}
use Rattle.std.proofs.Common.{None, refl, ap, lt-ltb, ltb-true}
use Rattle.std.proofs.lemmas.{Fmt.decimal_is_IsNumeral, Bool.and_from, Bool.and_parts}
use Rattle.std.proofs.lemmas.{Bool.cond-true, Option.same_Some, Option.none-some}
use Rattle.std.proofs.lemmas.{Slice.Eq.bytes_eq-Decides}
use Rattle.std.specs.{Fmt.decimal, Str.bytes_eq, Str.Parse.digits_value}
use Rattle.aeth_base.specs.Number.{number_of}

abbrev is_decimal : ℕ → List ℕ → Bool
is_decimal value text = ltb value (2 ^ 64) && bytes_eq text (decimal value)

-- What is read from the decimal text of a number is the number.
pub number_of-decimal : (n : ℕ) (text : List ℕ) → n < 2 ^ 64 → text ≡ decimal n
    → number_of text ≡ Some n
unfolding number_of
number_of-decimal n text small is_text =
    let value : digits_value 10 text ≡ n =
    ap (digits_value 10) is_text ∙ (decimal_is_IsNumeral n small).1 in
    let passes : is_decimal n text ≡ true =
    and_from (ltb n (2 ^ 64)) (bytes_eq text (decimal n)) (lt-ltb n (2 ^ 64) small)
    ((bytes_eq-Decides text (decimal n)).1 is_text) in
    rw value (cond-true (is_decimal n text) (Some n) None passes)

-- A number is read only from its decimal text.
pub number_of-some : (text : List ℕ) (n : ℕ) → number_of text ≡ Some n
    → (n < 2 ^ 64) × (text ≡ decimal n)
unfolding number_of
number_of-some text n read =
    let value = digits_value 10 text in
    let cases : (passes : Bool) → is_decimal value text ≡ passes
    → cond passes (Some value) None ≡ Some n → (n < 2 ^ 64) × (text ≡ decimal n) =
    elim [
      | true ↦ λ test same.
          let parts = and_parts (ltb value (2 ^ 64)) _ test in
          let is_n : value ≡ n = same_Some _ _ same in
          rw (← is_n)
          (ltb-true value (2 ^ 64) parts.0, (bytes_eq-Decides text (decimal value)).0 parts.1)
      | false ↦ λ test same. absurd (none-some n same)
    ]
    in cases (is_decimal value text) refl read

-- A text that is no number's decimal gives none.
pub number_of-none : (text : List ℕ) → ((n : ℕ) → n < 2 ^ 64 → text ≡ decimal n → ⊥)
    → number_of text ≡ None
unfolding number_of
number_of-none text never =
    let value = digits_value 10 text in
    let cases : (passes : Bool) → is_decimal value text ≡ passes
    → cond passes (Some value) None ≡ None =
    elim [
      | true ↦ λ test. let parts = and_parts (ltb value (2 ^ 64)) _ test in
          absurd (never value (ltb-true value (2 ^ 64) parts.0)
          ((bytes_eq-Decides text (decimal value)).0 parts.1))
      | false ↦ λ test. refl
    ]
    in cases (is_decimal value text) refl
