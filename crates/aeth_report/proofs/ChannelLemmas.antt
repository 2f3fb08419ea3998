-- The channels of an application's connections, and of a log that is regular for it.
use Rattle.std.proofs.Common.{◌≡◌, ◌<◌, ℕ, List, [], ◌∷◌, Contains, map, sym, ap, inl, inr, arith}
use Rattle.std.proofs.Common.{true, refl, ◌==◌, eq-eqb, eqb-true}
use Rattle.std.proofs.lemmas.Bool.{and_from, and_parts}
use Rattle.std.proofs.lemmas.List.Elements.{All-contains, All-contains_itself}
use Rattle.std.specs.List.{All, range_with_len}
use Rattle.aeth_base.specs.declared.ids.Channel.{Channel}
use Rattle.aeth_base.specs.declared.ids.Side.{Side, TheVariants.Back, TheVariants.Fwd}
use Rattle.aeth_base.specs.Sides.{same_side}
use Rattle.aeth_base.proofs.SideLemmas.{same_side-is, same_side-itself}
use Rattle.aeth_base.proofs.Members.{Contains-cases, Contains-flat_map, Contains-here, Contains-map}
use Rattle.aeth_base.proofs.Members.{Contains-nil, Contains-there, flat_map-Contains}
use Rattle.aeth_base.proofs.Ranges.{All-range, Contains-range}
use Rattle.aeth_trace.specs.Channels.{is_channel}
use Rattle.aeth_report.specs.{Channels.channels_of, Channels.channels_with, Log.ChannelData}

-- The channels of a connection are of it.
pub of_connection : (c : ℕ) (channel : Channel) → Contains (channels_with c) channel
    → channel.conn.0 ≡ c
of_connection c channel has =
    let fwd : Channel = record { conn = record { 0 = c }; side = Fwd } in
    let back : Channel = record { conn = record { 0 = c }; side = Back } in
    elim (Contains-cases fwd (back ∷ []) channel has) [
      | inl same ↦ sym (ap (λ (one : Channel). one.conn.0) same)
      | inr later ↦ elim (Contains-cases back [] channel later) [
        | inl same ↦ sym (ap (λ (one : Channel). one.conn.0) same)
        | inr none ↦ Contains-nil none
      ]
    ]

-- The channels of so many connections are of these.
pub channels_of-known : (connections : ℕ) (channel : Channel)
    → Contains (channels_of connections) channel → channel.conn.0 < connections
channels_of-known connections channel has =
    let range = range_with_len 0 connections in
    let found = flat_map-Contains channels_with range channel has in
    let below = All-contains (λ c. c < connections) range found.0 (All-range connections) found.1 in
    let same = of_connection found.0 channel found.2 in
    omega arith

-- And all of these are there.
each_side : (c : ℕ) (side : Side)
    → Contains (channels_with c) (record { conn = record { 0 = c }; side = side })
each_side c Fwd =
    Contains-here (record { conn = record { 0 = c }; side = Fwd })
    (record { conn = record { 0 = c }; side = Back } ∷ [])
each_side c Back =
    let fwd : Channel = record { conn = record { 0 = c }; side = Fwd } in
    let back : Channel = record { conn = record { 0 = c }; side = Back } in
    Contains-there fwd (back ∷ []) back (Contains-here back [])

pub known-channels_of : (connections : ℕ) (channel : Channel) → channel.conn.0 < connections
    → Contains (channels_of connections) channel
known-channels_of connections channel known =
    let c = channel.conn.0 in
    Contains-flat_map channels_with (range_with_len 0 connections) c channel
    (Contains-range 0 connections c (omega arith) (omega (arith, known)))
    (each_side c channel.side)

-- So are those of a log whose channels these are.
pub log-known : (connections : ℕ) (log : List ChannelData)
    → map (λ one. one.channel) log ≡ channels_of connections
    → All (λ one. one.channel.conn.0 < connections) log
log-known connections log same k default within =
    let itself = All-contains_itself log k default within in
    let has = Contains-map (λ (one : ChannelData). one.channel) log _ itself in
    channels_of-known connections _ (rw same at has)

-- ---- channels that are one

-- Channels that the test says are one are.
pub same_channel : (one other : Channel) → is_channel one other ≡ true → one ≡ other
same_channel one other is =
    let parts = and_parts (one.conn.0 == other.conn.0) (same_side one.side other.side) is in
    let conn = eqb-true one.conn.0 other.conn.0 parts.0 in
    let side = same_side-is one.side other.side parts.1 in
    λ k. record { conn = record { 0 = conn k }; side = side k }

-- A channel is itself.
pub is_channel-itself : (channel : Channel) → is_channel channel channel ≡ true
is_channel-itself channel =
    and_from (channel.conn.0 == channel.conn.0) (same_side channel.side channel.side)
    (eq-eqb channel.conn.0 channel.conn.0 refl) (same_side-itself channel.side)
