-- What a connection needs in slots of a table.
--
--   own_need      the slots for a wish's own words
--   credit_need      the slots for the credits of the other direction's words
--   back_need, fwd_need, need_of      what a channel needs
-- Slots and credits: after Æthereal (2005). The numbers: this project's own.
use Rattle.std.{proofs.Common.ℕ, proofs.Common.◌*◌, proofs.Common.max, specs.Int.div_ceil}
use Rattle.aeth_base.specs.declared.ids.Side.{Side, TheVariants.Fwd, TheVariants.Back}
use Rattle.aeth_base.specs.Limits.{credits_per_flit, words_per_flit}
use Rattle.aeth_app.specs.declared.connection.{Connection.Connection, Wish.Wish}

-- The least number of slots of a table that carry a wish's words, two words a slot; at least one.
abbrev pub own_need : ℕ → Wish → ℕ
own_need slots wish = max 1 (div_ceil (wish.words * slots) (words_per_flit * wish.per))

-- The least number of slots that carry the credits of so many slots' words, 15 credits a slot.
abbrev pub credit_need : ℕ → ℕ
credit_need need = div_ceil (words_per_flit * need) credits_per_flit

-- What the channel back needs: its own words, and the credits of the forward words.
abbrev pub back_need : ℕ → Connection → ℕ
back_need slots connection =
    max (own_need slots connection.back) (credit_need (own_need slots connection.fwd))

-- What the channel forward needs: its own words, and the credits of all that comes back.
abbrev pub fwd_need : ℕ → Connection → ℕ
fwd_need slots connection =
    max (own_need slots connection.fwd) (credit_need (back_need slots connection))

-- What a channel needs, in slots of a table of this size.
unfoldable pub need_of : ℕ → Connection → Side → ℕ
need_of slots connection Fwd = fwd_need slots connection
need_of slots connection Back = back_need slots connection
