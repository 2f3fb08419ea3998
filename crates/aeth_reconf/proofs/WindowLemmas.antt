-- The windows of stays: their order.
use Rattle.std.proofs.Common.{◌≡◌, ◌≤◌, ◌<◌, ◌+◌, ℕ, Bool, true, List, [], ◌∷◌, Contains, Option}
use Rattle.std.proofs.Common.{Some, None, filter, length, refl, ap, subst, inl, inr, arith, IfSome}
use Rattle.std.proofs.Common.{IsTrue, sum_by}
use Rattle.std.proofs.lemmas.List.Elements.{All-head, All-tail}
use Rattle.std.specs.List.{range_with_len}
use Rattle.aeth_base.specs.declared.ids.{Channel.Channel, ConnId.ConnId, Side.Side}
use Rattle.aeth_base.specs.declared.ids.{Side.TheVariants.Back, Side.TheVariants.Fwd}
use Rattle.aeth_base.proofs.Members.{Contains-filter, Contains-flat_map, Contains-here}
use Rattle.aeth_base.proofs.Members.{Contains-nil, Contains-there}
use Rattle.aeth_base.proofs.Ranges.{Contains-range}
use Rattle.aeth_group.specs.Members.{GroupsData, group_at, has_at}
use Rattle.aeth_ni.specs.Program.{write_count}
use Rattle.aeth_trace.specs.{Spans.SpanData, declared.switches.SwitchRow.SwitchRow}
use Rattle.aeth_report.specs.Channels.{channels_with}
use Rattle.aeth_report.specs.Sessions.{Stay, Switch, close_by, closes, go_of, opens, stays_behind}
use Rattle.aeth_report.specs.Sessions.{stays_of}
use Rattle.aeth_report.proofs.SessionOrder.{stays-after}
use Rattle.aeth_report.proofs.Stays.{AreKnown, IsClosedBy, IsKnown, stay_with-cases, switch_of}
use Rattle.aeth_report.proofs.StaysAlone.{at-Contains}
use Rattle.aeth_reconf.specs.Rows.{RowOf, channels_that, rows_closing, rows_opening}
use Rattle.aeth_reconf.specs.Windows.{AreWritable, IsInOrder, IsSlotInOrder, IsStayAt, cleared_of}
use Rattle.aeth_reconf.specs.Windows.{closing_ahead, freed_of, opening_ahead, set_of, slot_set_of}
use Rattle.aeth_reconf.proofs.WriteCounts.{ahead_of-within}

-- A channel is one of its connection's.
channels_with-has : (conn : ConnId) (side : Side)
    → Contains (channels_with conn.0) (record { conn = conn; side = side })
channels_with-has conn Fwd =
    Contains-here (record { conn = conn; side = Fwd }) (record { conn = conn; side = Back } ∷ [])
channels_with-has conn Back =
    Contains-there (record { conn = conn; side = Fwd }) (record { conn = conn; side = Back } ∷ [])
    (record { conn = conn; side = Back })
    (Contains-here (record { conn = conn; side = Back }) [])

module _ (groups : GroupsData) where
  -- A channel of a connection that passes a test is among those that do.
  pub channels_that-has : (test : ℕ → Bool) (channel : Channel)
      → channel.conn.0 < groups.connections → test channel.conn.0 ≡ true
      → Contains (channels_that groups test) channel
  channels_that-has test channel known passes =
      let range = range_with_len 0 groups.connections in
      let inside = Contains-range 0 groups.connections channel.conn.0 (omega arith) (omega arith) in
      Contains-flat_map channels_with (filter test range) channel.conn.0 channel
      (Contains-filter test range channel.conn.0 inside passes)
      (channels_with-has channel.conn channel.side)

  -- What opens a stay of a group: a switch from a known use case to one of that group that opens
  -- the connection.
  pub record IsOpenedBy (c group : ℕ) (switch : Switch) : Type 0 where
    pub left : switch.leaves < length groups.uses
    pub known : switch.row.to.0 < length groups.uses
    pub is_opened : IsTrue (opens groups switch.leaves switch.row.to.0 c)
    pub in_group : group_at groups switch.row.to.0 ≡ group

  -- So each stay is opened that rows open.
  behind-opened : (c : ℕ) (rows : List SwitchRow) (u : ℕ) (s : Stay)
      → u < length groups.uses → AreKnown groups rows
      → Contains (stays_behind groups c u rows) s → IfSome s.opening (IsOpenedBy c s.group)
  behind-opened c [] u s inside known has = Contains-nil has
  behind-opened c (row ∷ rows) u s inside known has =
      let v = row.to.0 in
      let opening = Some (switch_of u row) in
      let behind = stays_behind groups c v rows in
      let later : AreKnown groups rows = All-tail (IsKnown groups) row rows known in
      elim (stay_with-cases groups c (opens groups u v c) opening v rows behind s has) [
        | inl here ↦ subst (λ (x : Stay). IfSome x.opening (IsOpenedBy c x.group)) here.1 (record {
          left = inside;
          known = All-head (IsKnown groups) row rows known;
          is_opened = here.0;
          in_group = refl;
        })
        | inr there ↦ behind-opened c rows v s (All-head (IsKnown groups) row rows known) later there
      ]

  -- And so each of a list of switches that isn't loaded before cycle 0.
  stays_of-opened : (c : ℕ) (rows : List SwitchRow) (s : Stay) → AreKnown groups rows
      → Contains (stays_of groups c rows) s → IfSome s.opening (IsOpenedBy c s.group)
  stays_of-opened c [] s known has = Contains-nil has
  stays_of-opened c (first ∷ rows) s known has =
      let u = first.to.0 in
      let behind = stays_behind groups c u rows in
      let later : AreKnown groups rows = All-tail (IsKnown groups) first rows known in
      elim (stay_with-cases groups c (has_at groups u c) None u rows behind s has) [
        | inl here ↦ subst (λ (x : Stay). IfSome x.opening (IsOpenedBy c x.group)) here.1 tt
        | inr there ↦ behind-opened c rows u s (All-head (IsKnown groups) first rows known) later there
      ]

  module _ (row_of : RowOf) (spans : SpanData) where
    -- How many writes a channel has in a group.
    abbrev writes_in : ℕ → Channel → ℕ
    writes_in group channel = write_count (row_of group channel)

    -- ---- the writes of a channel within those of a switch

    -- Those that close it.
    pub closing-within : (channel : Channel) (group : ℕ) (switch : Switch)
        → channel.conn.0 < groups.connections → IsClosedBy groups channel.conn.0 group switch
        → closing_ahead groups row_of switch channel + writes_in group channel
        ≤ sum_by write_count (rows_closing groups row_of switch.leaves switch.row.to.0)
    closing-within channel group switch known closed =
        let test = closes groups switch.leaves switch.row.to.0 in
        let within = ahead_of-within row_of (group_at groups switch.leaves)
        (channels_that groups test) channel (channels_that-has test channel known closed.is_closed) in
        let same : writes_in (group_at groups switch.leaves) channel ≡ writes_in group channel =
        ap (λ (g : ℕ). writes_in g channel) closed.in_group in
        omega arith

    -- Those that open it.
    opening-within : (channel : Channel) (group : ℕ) (switch : Switch)
        → channel.conn.0 < groups.connections → IsOpenedBy channel.conn.0 group switch
        → opening_ahead groups row_of switch channel + writes_in group channel
        ≤ sum_by write_count (rows_opening groups row_of switch.leaves switch.row.to.0)
    opening-within channel group switch known is =
        let test = opens groups switch.leaves switch.row.to.0 in
        let within = ahead_of-within row_of (group_at groups switch.row.to.0)
        (channels_that groups test) channel (channels_that-has test channel known is.is_opened) in
        let same : writes_in (group_at groups switch.row.to.0) channel ≡ writes_in group channel =
        ap (λ (g : ℕ). writes_in g channel) is.in_group in
        omega arith

    -- ---- the order of a stay's windows

    module _ (rows : List SwitchRow) (may : AreWritable groups row_of spans rows) (channel : Channel)
        (place : ℕ) (s : Stay) (is : IsStayAt groups rows channel place s) where
      -- What opens and closes the stay.
      opened_by : IfSome s.opening (IsOpenedBy channel.conn.0 s.group)
      opened_by =
          stays_of-opened channel.conn.0 rows s may.known
          (at-Contains (stays_of groups channel.conn.0 rows) place s is.at)

      -- That of its route.
      pub in_order : IsInOrder groups row_of spans channel s
      in_order =
          let has = at-Contains (stays_of groups channel.conn.0 rows) place s is.at in
          let goes : (o : Option Switch) → IfSome o (IsOpenedBy channel.conn.0 s.group)
          → set_of groups row_of spans channel o ≤ go_of spans o = elim [
            | None ↦ λ none. omega arith
            | Some switch ↦ λ opener.
                let within = opening-within channel s.group switch is.known opener in
                let room = may.counted switch.leaves switch.row.to.0 opener.left
                opener.known in
                omega arith
          ] in
          let frees : (o : Option Switch) → IfSome o (λ switch.
          (close_by spans switch).fin < freed_of groups row_of spans s.group channel switch) = elim [
            | None ↦ tt
            | Some switch ↦ omega arith
          ] in
          record {
            first_set = goes s.opening opened_by;
            then_until = stays-after groups spans rows channel.conn.0 may.apart s has;
            then_free = frees s.closing;
          }

      -- That of its slots.
      pub slots_in_order : (k : ℕ) → k < length (row_of s.group channel).slots.slots
          → IsSlotInOrder groups row_of spans channel s k
      slots_in_order k inside =
          let route : (o : Option Switch) → set_of groups row_of spans channel o
          ≤ slot_set_of groups row_of spans channel o k = elim [
            | None ↦ omega arith
            | Some switch ↦ omega arith
          ] in
          let goes : (o : Option Switch) → IfSome o (IsOpenedBy channel.conn.0 s.group)
          → slot_set_of groups row_of spans channel o k ≤ go_of spans o = elim [
            | None ↦ λ none. omega arith
            | Some switch ↦ λ opener.
                let within = opening-within channel s.group switch is.known opener in
                let room = may.counted switch.leaves switch.row.to.0 opener.left
                opener.known in
                omega arith
          ] in
          let clears : (o : Option Switch) → IfSome o (λ switch.
          (close_by spans switch).fin < cleared_of groups row_of spans channel switch k) = elim [
            | None ↦ tt
            | Some switch ↦ omega arith
          ] in
          let frees : (o : Option Switch) → IfSome o (λ switch.
          cleared_of groups row_of spans channel switch k
          < freed_of groups row_of spans s.group channel switch) = elim [
            | None ↦ tt
            | Some switch ↦ omega arith
          ] in
          record {
            behind_route = route s.opening;
            then_go = goes s.opening opened_by;
            then_clear = clears s.closing;
            then_free = frees s.closing;
          }
