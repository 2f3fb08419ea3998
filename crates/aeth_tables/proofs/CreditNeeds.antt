-- The slots of a channel carry the credits of the opposite channel's words.
use Rattle.std.proofs.Common.{◌≤◌, ◌*◌, ℕ, max, arith}
use Rattle.std.proofs.Math.Nat.{le-max_right}
use Rattle.aeth_base.proofs.Division.{le-div_ceil}
use Rattle.aeth_base.specs.Limits.{credits_per_flit, words_per_flit}
use Rattle.aeth_base.specs.declared.ids.Side.{Side, TheVariants.Back, TheVariants.Fwd}
use Rattle.aeth_app.specs.Rates.{back_need, credit_need, fwd_need, need_of, own_need}
use Rattle.aeth_app.specs.declared.connection.Connection.{Connection}
use Rattle.aeth_app.proofs.NeedLemmas.{credit_need-le}
use Rattle.aeth_tables.specs.Granted.{other_side}

-- So many slots or more carry the credits of a need.
carried : (need slots : ℕ) → credit_need need ≤ slots
    → words_per_flit * need ≤ credits_per_flit * slots
carried need slots enough =
    le-div_ceil (words_per_flit * need) credits_per_flit slots (omega arith) enough

-- The lesser of two needs whose credits are carried has its carried too.
greater_carried : (one other slots : ℕ) → words_per_flit * one ≤ credits_per_flit * slots
    → other ≤ slots → words_per_flit * max one other ≤ credits_per_flit * slots
greater_carried one other slots first second = omega arith

-- The credits of a channel's need are carried by the need of the opposite channel.
pub credits_carried : (slots : ℕ) (connection : Connection) (side : Side)
    → words_per_flit * need_of slots connection side
    ≤ credits_per_flit * need_of slots connection (other_side side)
unfolding need_of
credits_carried slots connection Fwd =
    let back = back_need slots connection in
    let own = own_need slots connection.fwd in
    let enough = le-max_right (own_need slots connection.back) (credit_need own) in
    greater_carried own (credit_need back) back (carried own back enough) (credit_need-le back)
credits_carried slots connection Back =
    let back = back_need slots connection in
    let own = own_need slots connection.fwd in
    carried back (fwd_need slots connection) (le-max_right own (credit_need back))
