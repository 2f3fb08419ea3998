-- Channels by their numbers.
use Rattle.std.proofs.Common.{◌≡◌, ◌<◌, ◌∙◌, ◌*◌, ℕ, refl, inl, inr, arith, ◌==◌, ◌/◌, ◌%◌}
use Rattle.std.proofs.Common.{eqb-true}
use Rattle.std.proofs.lemmas.Bool.{cases_Bool, eqb-false, Decides.nat_tests}
use Rattle.aeth_base.specs.declared.ids.Channel.{Channel}
use Rattle.aeth_base.specs.declared.ids.Side.{Side, TheVariants.Back, TheVariants.Fwd}
use Rattle.aeth_trace.specs.Channels.{channel_number, is_channel, side_number}
use Rattle.aeth_stimuli.proofs.ChannelLists.{same_numbers}

-- A side has one of two numbers, and no other side has it.
side-small : (side : Side) → side_number side < 2
side-small Fwd = omega arith
side-small Back = omega arith

same-side : (one other : Side) → side_number one ≡ side_number other → one ≡ other
same-side Fwd Fwd same = refl
same-side Fwd Back same = absurd (omega (arith, same))
same-side Back Fwd same = absurd (omega (arith, same))
same-side Back Back same = refl

-- So it is with channels.
pub channel-within : (channel : Channel) (connections : ℕ) → channel.conn.0 < connections
    → channel_number channel < 2 * connections
channel-within channel connections known =
    let small = side-small channel.side in
    omega (arith, known, small)

pub channel-same : (one other : Channel) → channel_number one ≡ channel_number other → one ≡ other
channel-same one other same =
    let first = side-small one.side in
    let second = side-small other.side in
    let conn : one.conn.0 ≡ other.conn.0 = omega (arith, same, first, second) in
    let side : one.side ≡ other.side =
    same-side one.side other.side (omega (arith, same, first, second)) in
    λ i. record { conn = record { 0 = conn i }; side = side i }

-- Each number is one of a channel.
pub record HasNumber (connections number : ℕ) : Type 0 where
  pub channel : Channel
  pub is : channel_number channel ≡ number
  pub known : channel.conn.0 < connections

pub channel-of : (connections number : ℕ) → number < 2 * connections
    → HasNumber connections number
channel-of connections number within = elim (cases_Bool (number % 2 == 0)) [
  | inl even ↦
      let rest = eqb-true (number % 2) 0 even in
      record {
        channel = record { conn = record { 0 = number / 2 }; side = Fwd };
        is = omega (arith, rest);
        known = omega (arith, within);
      }
  | inr odd ↦
      let rest : number % 2 ≡ 0 → ⊥ = eqb-false (number % 2) 0 odd in
      let one : number % 2 ≡ 1 = omega arith in
      record {
        channel = record { conn = record { 0 = number / 2 }; side = Back };
        is = omega (arith, one);
        known = omega (arith, within);
      }
]

-- Numbers tell channels apart.
pub numbers-tell : (channel other : Channel)
    → (channel_number other == channel_number channel) ≡ is_channel channel other
numbers-tell channel other =
    let either : (channel_number other == channel_number channel)
    ≡ (channel_number channel == channel_number other) = grind (arith, nat_tests) in
    either ∙ same_numbers channel other
