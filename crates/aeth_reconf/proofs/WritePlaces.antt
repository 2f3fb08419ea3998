-- Each write of a switch is one of those of a channel.
use Rattle.std.proofs.Common.{◌≡◌, ◌≤◌, ◌<◌, ◌⊎◌, ◌∙◌, ◌+◌, ◌-◌, ◌++◌, ℕ, zero, suc, Bool, true}
use Rattle.std.proofs.Common.{false, List, [], ◌∷◌, Contains, filter, length, map, refl, sym, ap}
use Rattle.std.proofs.Common.{subst, inl, inr, arith, sum_by, length-append}
use Rattle.std.proofs.lemmas.Bool.{cases_Bool, cases_lt}
use Rattle.std.proofs.lemmas.List.{Concat.flat_map-cons, Sums.sum_by-cons, Elements.All-contains}
use Rattle.std.specs.{Prelude.⊤, List.flat_map, List.range_with_len}
use Rattle.aeth_base.specs.{declared.ids.Channel.Channel, declared.ids.Side.TheVariants.Back}
use Rattle.aeth_base.specs.{declared.ids.Side.TheVariants.Fwd, Sides.same_side}
use Rattle.aeth_base.proofs.Members.{Contains-cases, Contains-here, Contains-nil, Contains-there}
use Rattle.aeth_base.proofs.Members.{filter-Contains, flat_map-Contains}
use Rattle.aeth_base.proofs.Ranges.{All-range}
use Rattle.aeth_group.specs.Members.{GroupsData, group_at}
use Rattle.aeth_ni.specs.Program.{closing_writes, opening_writes, write_count}
use Rattle.aeth_ni.proofs.ProgramLemmas.{length-closing_writes, length-opening_writes}
use Rattle.aeth_trace.specs.{Channels.is_channel, Spans.SpanData}
use Rattle.aeth_report.specs.Channels.{channels_with}
use Rattle.aeth_report.specs.Sessions.{Switch, closes, opens}
use Rattle.aeth_report.proofs.ChannelLemmas.{is_channel-itself, of_connection, same_channel}
use Rattle.aeth_reconf.specs.Rows.{RowOf, channels_that, rows_closing, rows_opening, switch_program}
use Rattle.aeth_reconf.specs.Windows.{IsClosingWrite, IsOpeningWrite, ahead_of}
use Rattle.aeth_reconf.proofs.WriteCounts.{length-writes}

-- ---- channels that differ

-- No channel stands twice in a list.
abbrev AreDifferent : List Channel → Type 0
AreDifferent [] = ⊤
AreDifferent (one ∷ channels) =
    ((other : Channel) → Contains channels other → is_channel one other ≡ false)
    × AreDifferent channels

-- The test tells apart what isn't one.
told_apart : (one other : Channel) → (one ≡ other → ⊥) → is_channel one other ≡ false
told_apart one other differ = elim (cases_Bool (is_channel one other)) [
  | inl is ↦ absurd (differ (same_channel one other is))
  | inr apart ↦ apart
]

module _ (test : ℕ → Bool) where
  -- The channels of the connections that pass a test, of so many from a first one on.
  abbrev from : ℕ → ℕ → List Channel
  from low size = flat_map channels_with (filter test (range_with_len low size))

  -- They are of these connections.
  from-above : (size low : ℕ) (channel : Channel) → Contains (from low size) channel
      → low ≤ channel.conn.0
  from-above zero low channel has = Contains-nil has
  from-above (suc size) low channel has = elim (cases_Bool (test low)) [
    | inl passes ↦
        let later = filter test (range_with_len (low + 1) size) in
        let fwd : Channel = record { conn = record { 0 = low }; side = Fwd } in
        let back : Channel = record { conn = record { 0 = low }; side = Back } in
        let split = flat_map-cons channels_with low later in
        elim (Contains-cases fwd (back ∷ flat_map channels_with later) channel
        (subst (λ (xs : List Channel). Contains xs channel) split (rw passes at has))) [
          | inl same ↦ let conn = ap (λ (ch : Channel). ch.conn.0) same in omega arith
          | inr more ↦ elim (Contains-cases back (flat_map channels_with later) channel more) [
            | inl same ↦ let conn = ap (λ (ch : Channel). ch.conn.0) same in omega arith
            | inr behind ↦ let above = from-above size (low + 1) channel behind in omega arith
          ]
        ]
    | inr fails ↦
        let above = from-above size (low + 1) channel (rw fails at has) in omega arith
  ]

  -- And they differ.
  from-different : (size low : ℕ) → AreDifferent (from low size)
  from-different zero low = tt
  from-different (suc size) low = elim (cases_Bool (test low)) [
    | inl passes ↦
        let later = filter test (range_with_len (low + 1) size) in
        let rest = flat_map channels_with later in
        let fwd : Channel = record { conn = record { 0 = low }; side = Fwd } in
        let back : Channel = record { conn = record { 0 = low }; side = Back } in
        let behind : (one : Channel) → one.conn.0 ≡ low → (other : Channel)
        → Contains rest other → is_channel one other ≡ false =
        λ one own other has. told_apart one other (λ same.
        let above = from-above size (low + 1) other has in
        let conn : one.conn.0 ≡ other.conn.0 = ap (λ (ch : Channel). ch.conn.0) same in
        absurd (omega arith)) in
        let beside : (other : Channel) → Contains (back ∷ rest) other
        → is_channel fwd other ≡ false = λ other has. elim (Contains-cases back rest other has) [
          | inl same ↦ told_apart fwd other (λ is.
              absurd (cc (ap (λ (ch : Channel). same_side ch.side Fwd) (is ∙ sym same))))
          | inr more ↦ behind fwd refl other more
        ] in
        let all : AreDifferent (channels_with low ++ rest) =
        (beside, (behind back refl, from-different size (low + 1))) in
        rw passes (subst (λ (xs : List Channel). AreDifferent xs)
        (sym (flat_map-cons channels_with low later)) all)
    | inr fails ↦ rw fails (from-different size (low + 1))
  ]

module _ (row_of : RowOf) (group : ℕ) where
  -- ---- the channel of a write

  -- A write's place among those of some channels: one channel's, behind those of the channels before.
  record IsPlaceOf (channels : List Channel) (k : ℕ) : Type 0 where
    channel : Channel
    has : Contains channels channel
    i : ℕ
    inside : i < write_count (row_of group channel)
    place : ahead_of row_of group channels channel + i ≡ k

  -- Each place is one.
  place_of : (channels : List Channel) → AreDifferent channels → (k : ℕ)
      → k < sum_by write_count (map (row_of group) channels) → IsPlaceOf channels k
  place_of [] differ k less = absurd (omega arith)
  place_of (one ∷ channels) differ k less =
      let own = write_count (row_of group one) in
      let sum = sum_by-cons write_count (row_of group one) (map (row_of group) channels) in
      elim (cases_lt k own) [
        | inl here ↦ record {
          channel = one;
          has = Contains-here one channels;
          i = k;
          inside = here;
          place = rw (is_channel-itself one) (omega arith);
        }
        | inr late ↦
            let behind = place_of channels differ.1 (k - own) (omega arith) in
            let place = behind.place in
            record {
              channel = behind.channel;
              has = Contains-there one channels behind.channel behind.has;
              i = behind.i;
              inside = behind.inside;
              place = rw (differ.0 behind.channel behind.has) (omega arith);
            }
      ]

module _ (groups : GroupsData) where
  -- A channel of a connection that passes a test is one of a known connection.
  record Passes (test : ℕ → Bool) (channel : Channel) : Type 0 where
    known : channel.conn.0 < groups.connections
    passes : test channel.conn.0 ≡ true

  that_passes : (test : ℕ → Bool) (channel : Channel)
      → Contains (channels_that groups test) channel → Passes test channel
  that_passes test channel has =
      let range = range_with_len 0 groups.connections in
      let at = flat_map-Contains channels_with (filter test range) channel has in
      let kept = filter-Contains test range at.0 at.1 in
      let own : channel.conn.0 ≡ at.0 = of_connection at.0 channel at.2 in
      let below = All-contains (λ i. i < groups.connections) range at.0
      (All-range groups.connections) kept.0 in
      record { known = omega arith; passes = ap test own ∙ kept.1 }

  module _ (row_of : RowOf) (spans : SpanData) (switch : Switch) where
    -- Each write of a switch is one that closes a channel or one that opens it.
    pub of_channel : (k : ℕ)
        → k < length (switch_program groups row_of switch.leaves switch.row.to.0)
        → IsClosingWrite groups row_of spans switch k ⊎ IsOpeningWrite groups row_of spans switch k
    of_channel k less =
        let u = switch.leaves in
        let v = switch.row.to.0 in
        let shut = rows_closing groups row_of u v in
        let open_rows = rows_opening groups row_of u v in
        let closing = flat_map closing_writes shut in
        let opening = flat_map opening_writes open_rows in
        let both = length-append closing opening in
        let closed = length-writes row_of (group_at groups u) closing_writes length-closing_writes shut in
        let opened = length-writes row_of (group_at groups v) opening_writes length-opening_writes open_rows in
        elim (cases_lt k (sum_by write_count shut)) [
          | inl early ↦
              let test = closes groups u v in
              let at = place_of row_of (group_at groups u) (channels_that groups test)
              (from-different test groups.connections 0) k early in
              let is = that_passes test at.channel at.has in
              let place = at.place in
              inl (record {
                channel = at.channel;
                closed = record { known = is.known; is = is.passes };
                i = at.i;
                inside = at.inside;
                time = omega arith;
              })
          | inr late ↦
              let test = opens groups u v in
              let at = place_of row_of (group_at groups v) (channels_that groups test)
              (from-different test groups.connections 0) (k - sum_by write_count shut)
              (omega arith) in
              let is = that_passes test at.channel at.has in
              let place = at.place in
              inr (record {
                channel = at.channel;
                opened = record { known = is.known; is = is.passes };
                i = at.i;
                inside = at.inside;
                time = omega arith;
              })
        ]
