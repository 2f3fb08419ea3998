-- Laws of quotients that are rounded up, and of numbers round a table.
use Rattle.std.proofs.Common.{ℕ, ◌≡◌, ◌∙◌, ◌+◌, ◌-◌, ◌*◌, ◌/◌, ◌%◌, ◌<◌, ◌≤◌, sym, ap, arith}
use Rattle.std.proofs.lemmas.Grind.{div_ceil_times}
use Rattle.std.proofs.Math.Nat.{add-mod_right, add-mul-mod_self_left, div-add-mod, mod-add-mod}
use Rattle.std.proofs.Math.Nat.{mod-lt, lt_of_mul-lt-mul_right, mul-le-mul_left}
use Rattle.std.specs.Int.{div_ceil}

-- A quotient that is rounded up is at most a number where the product is.
pub div_ceil-le : (x y n : ℕ) → 0 < y → x ≤ y * n → div_ceil x y ≤ n
div_ceil-le x y n some below =
    let round = div_ceil_times x y some in
    let less : div_ceil x y * y < (n + 1) * y = omega (arith, round.1) in
    let next : div_ceil x y < n + 1 = lt_of_mul-lt-mul_right y less in
    omega (arith, next)

-- And only there.
pub le-div_ceil : (x y n : ℕ) → 0 < y → div_ceil x y ≤ n → x ≤ y * n
le-div_ceil x y n some below =
    let round = div_ceil_times x y some in
    let wider : y * div_ceil x y ≤ y * n = mul-le-mul_left y below in
    omega (arith, round.0, wider)

-- A number so many on, and as many back round the table.
round-back : (x a size : ℕ) → 1 ≤ size → ((x + a) % size + (size - a % size)) % size ≡ x % size
round-back x a size some =
    let back = size - a % size in
    let below = mod-lt a {m = size} (omega (arith, some)) in
    let split = div-add-mod a size in
    let whole : (x + a) + back ≡ (x + size) + size * (a / size) = omega (arith, below, split) in
    mod-add-mod (x + a) size back ∙ ap (λ n. n % size) whole
    ∙ add-mul-mod_self_left (x + size) size (a / size) ∙ add-mod_right x size

-- Numbers that come to one place round a table once as many are added stand at one place.
pub mod-before : (x y a size : ℕ) → 1 ≤ size → (x + a) % size ≡ (y + a) % size → x % size ≡ y % size
mod-before x y a size some same =
    sym (round-back x a size some) ∙ ap (λ n. (n + (size - a % size)) % size) same
    ∙ round-back y a size some
