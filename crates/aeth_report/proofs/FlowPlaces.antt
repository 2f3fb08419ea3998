-- Channels and flows by their numbers: a channel stands once among all, and flow number n is that
-- of session n.
use Rattle.std.proofs.Common.{◌≡◌, ◌<◌, ◌∙◌, ℕ, zero, suc, ◌+◌, length, take, Some, slice_get, sym}
use Rattle.std.proofs.Common.{ap, arith}
use Rattle.std.proofs.lemmas.Option.{get_or_from_slice_get, same_Some, slice_get_within}
use Rattle.std.specs.List.{flat_map, range_with_len}
use Rattle.aeth_base.specs.declared.ids.Channel.{Channel}
use Rattle.aeth_base.specs.declared.ids.Side.TheVariants.{Fwd, Back}
use Rattle.aeth_trace.specs.Channels.{side_number}
use Rattle.aeth_report.specs.Channels.{channels_of, channels_with}
use Rattle.aeth_report.specs.Flows.{Flow, Run}
use Rattle.aeth_report.specs.SessionList.{flow_by, flows_of, listed_at, no_session, session_list}
use Rattle.aeth_report.proofs.{Places.flat_map-place, Places.range-place, SessionMeetings.mapped_at}

-- A channel of a connection stands at its place.
channels_with-place : (c i : ℕ) (channel : Channel) → slice_get (channels_with c) i ≡ Some channel
    → (channel.conn.0 ≡ c) × (side_number channel.side ≡ i)
channels_with-place c zero channel at =
    let same = same_Some (record { conn = record { 0 = c }; side = Fwd }) channel at in (
      sym (ap (λ (ch : Channel). ch.conn.0) same),
      sym (ap (λ (ch : Channel). side_number ch.side) same),
    )
channels_with-place c (suc zero) channel at =
    let same = same_Some (record { conn = record { 0 = c }; side = Back }) channel at in (
      sym (ap (λ (ch : Channel). ch.conn.0) same),
      sym (ap (λ (ch : Channel). side_number ch.side) same),
    )
channels_with-place c (suc (suc i)) channel at = absurd cc

-- A channel stands once among all.
pub channels_of-once : (n i j : ℕ) (channel other : Channel)
    → slice_get (channels_of n) i ≡ Some channel → slice_get (channels_of n) j ≡ Some other
    → channel ≡ other → i ≡ j
channels_of-once n i j channel other at_i at_j same =
    let range = range_with_len 0 n in
    let found = flat_map-place channels_with range i channel at_i in
    let again = flat_map-place channels_with range j other at_j in
    let one = channels_with-place found.item found.inner channel found.gives in
    let two = channels_with-place again.item again.inner other again.gives in
    let place_one = range-place 0 n found.place found.item found.at in
    let place_two = range-place 0 n again.place again.item again.at in
    let conn : channel.conn.0 ≡ other.conn.0 = ap (λ (ch : Channel). ch.conn.0) same in
    let side : side_number channel.side ≡ side_number other.side =
    ap (λ (ch : Channel). side_number ch.side) same in
    let conn_one = one.0 in
    let conn_two = two.0 in
    let side_one = one.1 in
    let side_two = two.1 in
    let places : found.place ≡ again.place = omega arith in
    let len : length (flat_map channels_with (take found.place range))
    ≡ length (flat_map channels_with (take again.place range)) =
    ap (λ k. length (flat_map channels_with (take k range))) places in
    let number_one = found.number in
    let number_two = again.number in
    omega arith

-- Flow number n is that of session n.
pub record IsFlowOf (run : Run) (n : ℕ) (flow : Flow) : Type 0 where
  pub known : n < length (session_list run)
  pub is : flow_by run (listed_at run n) ≡ flow

-- So each flow is.
pub flows_of-place : (run : Run) (n : ℕ) (flow : Flow) → slice_get (flows_of run) n ≡ Some flow
    → IsFlowOf run n flow
flows_of-place run n flow at =
    let all = session_list run in
    let (session, there, is) = mapped_at (flow_by run) all n flow at in
    record {
      known = slice_get_within all n session there;
      is = ap (flow_by run) (get_or_from_slice_get all n session no_session there) ∙ is;
    }
