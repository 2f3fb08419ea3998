-- Channels by their numbers, and those of connections that pass a test.
use Rattle.std.proofs.Common.{◌≡◌, ◌≤◌, ◌<◌, ◌+◌, ◌==◌, ◌&&◌, ◌∙◌, ◌++◌, ℕ, Bool, List, [], ◌∷◌, ap}
use Rattle.std.proofs.Common.{filter, inl, inr, refl, flat_map}
use Rattle.std.proofs.lemmas.Bool.{cases_Bool}
use Rattle.aeth_base.specs.declared.ids.Channel.{Channel}
use Rattle.aeth_base.specs.declared.ids.Side.TheVariants.{Back, Fwd}
use Rattle.aeth_trace.specs.Channels.{channel_number, is_channel}
use Rattle.aeth_trace.proofs.IndexLemmas.{same_sides}
use Rattle.aeth_report.specs.Channels.{channels_with}

-- Channels have one number where they are one.
pub same_numbers : (one other : Channel)
    → (channel_number one == channel_number other) ≡ is_channel one other
same_numbers one other = same_sides one.conn.0 other.conn.0 one.side other.side

-- Of the channels of connections a test on these keeps those of the connections that pass it.
pub channels-passing : (has test : ℕ → Bool) (cs : List ℕ)
    → filter (λ channel. test channel.conn.0) (flat_map channels_with (filter has cs))
    ≡ flat_map channels_with (filter (λ c. has c && test c) cs)
channels-passing has test [] = refl
channels-passing has test (c ∷ cs) =
    let rest = channels-passing has test cs in
    elim (cases_Bool (has c)) [
      | inr fails ↦ rw fails rest
      | inl passes ↦ elim (cases_Bool (test c)) [
        | inl both ↦ rw (passes, both) (ap (λ (channels : List Channel).
            record { conn = record { 0 = c }; side = Fwd }
            ∷ record { conn = record { 0 = c }; side = Back } ∷ channels) rest)
        | inr half ↦ rw (passes, half) rest
      ]
    ]
