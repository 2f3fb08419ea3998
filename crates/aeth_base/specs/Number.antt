-- The number that a text is the canonical decimal of.
-- This project's own; the decimal text of a number is std's.
use Rattle.std.proofs.Common.{◌≡◌, ◌<◌, length, get_or, ℕ, ◌+◌, ◌*◌, ◌^◌, ◌&&◌, nat_lt, List}
use Rattle.std.proofs.Common.{Option, Some, None, if◌then◌else◌, decimal}
use Rattle.std.specs.{Char.digit_value, Str.bytes_eq, Str.Parse.digits_value}

-- A text that has a first byte, and a `0` as the first only where it has no other.
pub record IsLed (text : List ℕ) : Type 0 where
  pub some : 0 < length text
  pub led : get_or text 0 0 ≡ 48 → length text ≡ 1

-- The number with the digit of a byte behind its own, where the byte has one and 64 bits hold it.
abbrev pub with_digit : ℕ → ℕ → Option ℕ
with_digit value byte =
    let digit = digit_value byte in
    let next = value * 10 + digit in
    if nat_lt digit 10 && nat_lt next (2 ^ 64) then Some next else None

-- The number of 64 bits whose decimal text this is, with no sign and no leading zero.
unfoldable pub number_of : List ℕ → Option ℕ
number_of text =
    let value = digits_value 10 text in
    if nat_lt value (2 ^ 64) && bytes_eq text (decimal value) then Some value else None
