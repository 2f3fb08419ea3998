-- What channels need lies between one slot and the table.
use Rattle.std.proofs.Common.{◌*◌, ◌≤◌, ◌↔◌, ℕ, arith}
use Rattle.std.proofs.Math.Nat.{le-max_left, le-max_right, max-le, mul-le-mul_right}
use Rattle.std.proofs.Math.Nat.{le_of_mul-le-mul_right}
use Rattle.std.specs.Int.{div_ceil}
use Rattle.aeth_base.proofs.Division.{div_ceil-le, le-div_ceil}
use Rattle.aeth_base.specs.Limits.{credits_per_flit, words_per_flit}
use Rattle.aeth_base.specs.declared.ids.Side.{Side, TheVariants.Fwd, TheVariants.Back}
use Rattle.aeth_app.specs.App.{IsWish}
use Rattle.aeth_app.specs.Rates.{back_need, credit_need, need_of, own_need}
use Rattle.aeth_app.specs.declared.connection.{Connection.Connection, Wish.Wish}

-- A wish's own words need no more slots than the table has, where it has at most two a cycle.
own_need-le : (slots : ℕ) (wish : Wish) → 1 ≤ slots → 1 ≤ wish.per
    → wish.words ≤ words_per_flit * wish.per → own_need slots wish ≤ slots
own_need-le slots wish some per rate =
    let product = mul-le-mul_right slots rate in
    max-le some (div_ceil-le (wish.words * slots) (words_per_flit * wish.per) slots (omega arith)
    product)

-- And only there.
le-own_need : (slots : ℕ) (wish : Wish) → 1 ≤ slots → 1 ≤ wish.per
    → own_need slots wish ≤ slots → wish.words ≤ words_per_flit * wish.per
le-own_need slots wish some per few =
    let quotient = div_ceil (wish.words * slots) (words_per_flit * wish.per) in
    let high = le-max_right 1 quotient in
    let product = le-div_ceil (wish.words * slots) (words_per_flit * wish.per) slots (omega arith)
    (omega arith) in
    le_of_mul-le-mul_right product some

-- A wish's own words need no more slots than the table has exactly where it has at most two a cycle.
pub own_need-fits : (slots : ℕ) (wish : Wish) → 1 ≤ slots → 1 ≤ wish.per
    → (own_need slots wish ≤ slots) ↔ (wish.words ≤ words_per_flit * wish.per)
own_need-fits slots wish some per = (
  le-own_need slots wish some per,
  own_need-le slots wish some per,
)

-- Credits need no more slots than the words that they are for.
pub credit_need-le : (need : ℕ) → credit_need need ≤ need
credit_need-le need =
    div_ceil-le (words_per_flit * need) credits_per_flit need (omega arith) (omega arith)

-- Each channel needs a slot.
pub need_of-some : (slots : ℕ) (connection : Connection) (side : Side)
    → 1 ≤ need_of slots connection side
unfolding need_of
need_of-some slots connection Fwd =
    let own = le-max_left 1 (div_ceil (connection.fwd.words * slots)
    (words_per_flit * connection.fwd.per)) in
    let need = le-max_left (own_need slots connection.fwd)
    (credit_need (back_need slots connection)) in
    omega arith
need_of-some slots connection Back =
    let own = le-max_left 1 (div_ceil (connection.back.words * slots)
    (words_per_flit * connection.back.per)) in
    let need = le-max_left (own_need slots connection.back)
    (credit_need (own_need slots connection.fwd)) in
    omega arith

back_need-le : (slots : ℕ) (connection : Connection) → 1 ≤ slots → IsWish connection.fwd
    → IsWish connection.back → back_need slots connection ≤ slots
back_need-le slots connection some fwd back =
    let mine = own_need-le slots connection.back some back.some_per back.rate in
    let other = own_need-le slots connection.fwd some fwd.some_per fwd.rate in
    let credits = credit_need-le (own_need slots connection.fwd) in
    max-le mine (omega arith)

-- No channel needs more slots than the table has.
pub need_of-most : (slots : ℕ) (connection : Connection) (side : Side) → 1 ≤ slots
    → IsWish connection.fwd → IsWish connection.back → need_of slots connection side ≤ slots
unfolding need_of
need_of-most slots connection Fwd some fwd back =
    let mine = own_need-le slots connection.fwd some fwd.some_per fwd.rate in
    let other = back_need-le slots connection some fwd back in
    let credits = credit_need-le (back_need slots connection) in
    max-le mine (omega arith)
need_of-most slots connection Back some fwd back = back_need-le slots connection some fwd back
