-- Laws of the two sides of a connection, and of its two channels.
use Rattle.std.proofs.Common.{◌∷◌, ◌≡◌, Contains, [], refl, true}
use Rattle.std.proofs.lemmas.Bool.{false≢true}
use Rattle.aeth_base.specs.Sides.{channels_with, same_side}
use Rattle.aeth_base.specs.declared.ids.Side.{Side, TheVariants.Back, TheVariants.Fwd}
use Rattle.aeth_base.specs.declared.ids.Channel.{Channel}
use Rattle.aeth_base.proofs.Members.{Contains-here, Contains-there}

-- Sides that pass the test are one.
pub same_side-is : (a b : Side) → same_side a b ≡ true → a ≡ b
same_side-is Fwd Fwd same = refl
same_side-is Fwd Back same = absurd (false≢true same)
same_side-is Back Fwd same = absurd (false≢true same)
same_side-is Back Back same = refl

-- A side is itself.
pub same_side-itself : (side : Side) → same_side side side ≡ true
same_side-itself Fwd = refl
same_side-itself Back = refl

-- A channel is one of its connection's.
pub own-channel : (channel : Channel) → Contains (channels_with channel.conn.0) channel
own-channel channel =
    let fwd : Channel = record { conn = channel.conn; side = Fwd } in
    let back : Channel = record { conn = channel.conn; side = Back } in
    let cases : (side : Side) → channel.side ≡ side
    → Contains (fwd ∷ back ∷ []) (record { conn = channel.conn; side = side }) =
    elim [
      | Fwd ↦ λ is. Contains-here fwd (back ∷ [])
      | Back ↦ λ is. Contains-there fwd (back ∷ []) back (Contains-here back [])
    ]
    in cases channel.side refl
