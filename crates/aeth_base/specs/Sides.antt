-- The two sides of a connection, and its two channels.
--
--   same_side, other_side      whether two sides are one; the opposite side
--   channels_with      the channels of a connection
-- A connection with a channel each way: after Æthereal (2005).
use Rattle.std.proofs.Common.{ℕ, Bool, true, false, List, [], ◌∷◌}
use Rattle.aeth_base.specs.declared.ids.Channel.{Channel}
use Rattle.aeth_base.specs.declared.ids.Side.{Side, TheVariants.Back, TheVariants.Fwd}

-- Whether two sides are one.
abbrev pub same_side : Side → Side → Bool
same_side Fwd Fwd = true
same_side Fwd Back = false
same_side Back Fwd = false
same_side Back Back = true

-- The opposite side of a connection.
abbrev pub other_side : Side → Side
other_side Fwd = Back
other_side Back = Fwd

-- The channels of a connection: forward, and back.
abbrev pub channels_with : ℕ → List Channel
channels_with conn =
    record { conn = record { 0 = conn }; side = Fwd }
    ∷ record { conn = record { 0 = conn }; side = Back } ∷ []
