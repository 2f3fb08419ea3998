-- The events of a run are those of its switches, in the order of cycles, and apart in each.
use Rattle.std.proofs.Common.{◌≡◌, ◌≤◌, ◌<◌, ℕ, true, not, List, [], ◌∷◌, Contains, arith, inl, inr}
use Rattle.std.proofs.Common.{length, subst, sym, nat_lt, Ok, lt-ltb}
use Rattle.std.proofs.lemmas.Bool.{and_parts}
use Rattle.std.proofs.lemmas.List.{Concat.flat_map-cons, Elements.All-head, Elements.All-tail}
use Rattle.std.proofs.lemmas.List.{Elements.Contains-append_cases, Kept.AllPairs-filter}
use Rattle.std.specs.List.{AllPairs, flat_map}
use Rattle.aeth_base.specs.declared.ids.Channel.{Channel}
use Rattle.aeth_base.proofs.Members.{Contains-filter, Contains-flat_map, Contains-nil}
use Rattle.aeth_base.proofs.Members.{filter-Contains, flat_map-Contains, map-Contains}
use Rattle.aeth_server.specs.Shape.{IsGranted}
use Rattle.aeth_group.specs.Members.{GroupsData, group_at, groups_of, has_at, is_kept}
use Rattle.aeth_ni.specs.declared.row.ChannelRow.{ChannelRow}
use Rattle.aeth_trace.specs.{Switches.are_apart, declared.switches.SwitchRow.SwitchRow}
use Rattle.aeth_report.specs.{Design.shape_at, Sessions.Switch, Sessions.closes, Sessions.go_by}
use Rattle.aeth_report.specs.{Sound.IsSound}
use Rattle.aeth_report.proofs.SessionMeetings.{AreInTime, in_time}
use Rattle.aeth_report.proofs.Stays.{AreKnown, IsKnown, switch_of}
use Rattle.aeth_reconf.specs.{Rows.RowOf, Rows.channels_that, Windows.AreWritable}
use Rattle.aeth_accepted.specs.Inputs.{AreAccepted, Inputs, design_of, row_at, run_of}
use Rattle.aeth_accepted.proofs.{SoundRuns.AreSpans, SoundRuns.is_sound, TableFlows.shape-granted}
use Rattle.aeth_accepted.proofs.{ApartRows.all_apart, SessionRows.known, SessionRows.one}
use Rattle.aeth_routed_sessions.proofs.WritableRuns.{writable}
use Rattle.aeth_schedule.specs.Switching.{events_by, later_switches, switches_from, timed_of}
use Rattle.aeth_schedule.specs.declared.timed.Timed.{Timed}
use Rattle.aeth_stimuli.proofs.Pairs.{Differ, channel-passes, channels-differ, pairs-append}
use Rattle.aeth_stimuli.proofs.Pairs.{pairs-map, pairs-none}
use Rattle.aeth_stimuli.proofs.SwitchOrder.{HaveOwn, IsFit, Precedes, event-while, events-precede}
use Rattle.aeth_stimuli.proofs.SwitchOrder.{precedes-early}

module _ (inputs : Inputs) (accepted : AreAccepted inputs) where
  abbrev groups : GroupsData
  groups = groups_of inputs.app

  abbrev row_of : RowOf
  row_of = row_at (design_of inputs)

  -- A channel of a use case is granted what it asks for.
  pub granted-in : (u : ℕ) (channel : Channel)
      → has_at (groups_of inputs.app) u channel.conn.0 ≡ true
      → IsGranted (shape_at (design_of inputs) channel (group_at (groups_of inputs.app) u))
  granted-in u channel has =
      let own = one inputs accepted u channel has in
      subst (λ (n : ℕ). IsGranted (shape_at (design_of inputs)
      (record { conn = record { 0 = n }; side = channel.side }) (group_at groups u)))
      own.given.conn_is
      (shape-granted inputs accepted (record { 0 = u }) (known inputs accepted u channel has)
      own.granted own.is_in channel.side)

  -- So it has slots.
  some-slots : (u : ℕ) (channel : Channel)
      → has_at (groups_of inputs.app) u channel.conn.0 ≡ true
      → 0 < length (row_at (design_of inputs) (group_at (groups_of inputs.app) u) channel).slots.slots
  some-slots u channel has =
      let granted = granted-in u channel has in
      let rate = granted.least_rate in
      let capacity = granted.capacity in
      omega (arith, rate, capacity)

  -- ---- which events there are

  -- Those of its switches below its end.
  pub happens : (switch : Switch) → Contains (later_switches inputs.switches) switch → (one : Timed)
      → Contains (events_by inputs switch) one → one.cycle < inputs.cycles
      → Contains (timed_of inputs) one
  unfolding timed_of
  happens switch is_switch one has less =
      Contains-filter (λ (x : Timed). nat_lt x.cycle inputs.cycles)
      (flat_map (events_by inputs) (later_switches inputs.switches)) one
      (Contains-flat_map (events_by inputs) (later_switches inputs.switches) switch one is_switch has)
      (lt-ltb one.cycle inputs.cycles less)

  pub caused : (one : Timed) → Contains (timed_of inputs) one
      → (switch : Switch) × Contains (later_switches inputs.switches) switch
      × Contains (events_by inputs switch) one
  unfolding timed_of
  caused one has =
      let (all, less) = filter-Contains (λ (x : Timed). nat_lt x.cycle inputs.cycles)
      (flat_map (events_by inputs) (later_switches inputs.switches)) one has in
      flat_map-Contains (events_by inputs) (later_switches inputs.switches) one all

  -- ---- their order

  module _ (spans : AreSpans inputs accepted) where
    sound : IsSound (run_of inputs)
    sound = is_sound inputs accepted spans

    -- The tables of the run can be written.
    pub may : AreWritable (groups_of inputs.app) (row_at (design_of inputs)) (run_of inputs).spans
        inputs.switches
    may = writable inputs accepted spans sound

    -- A switch between known use cases has what it needs.
    fits : (switch : Switch) → switch.leaves < length (groups_of inputs.app).uses
        → switch.row.to.0 < length (groups_of inputs.app).uses
        → IsFit (groups_of inputs.app) (row_at (design_of inputs)) (run_of inputs).spans switch
    fits switch left entered =
        let u = switch.leaves in
        let v = switch.row.to.0 in
        let f = row_of (group_at groups u) in
        let channels = channels_that groups (closes groups u v) in
        let in_use : (channel : Channel) → closes groups u v channel.conn.0 ≡ true
        → has_at groups u channel.conn.0 ≡ true =
        λ channel shuts. (and_parts (has_at groups u channel.conn.0)
        (not (is_kept groups u v channel.conn.0)) shuts).0 in
        record {
          counted = may.counted u v left entered;
          lag = λ row has.
              let (channel, same, listed) = map-Contains f channels row has in
              let (inside, shuts) = channel-passes groups (closes groups u v) channel listed in
              let some = (sound.granted.paths u channel (in_use channel shuts)).some in
              let all = sound.lags u v channel entered shuts in
              omega (arith, some, all);
          slots = λ row has.
              let (channel, same, listed) = map-Contains f channels row has in
              let (inside, shuts) = channel-passes groups (closes groups u v) channel listed in
              subst (λ (r : ChannelRow). 0 < length r.slots.slots) same
              (some-slots u channel (in_use channel shuts));
          queues = pairs-map f Differ HaveOwn channels (λ a b has_a has_b differ ni queue.
              let (inside_a, shuts_a) = channel-passes groups (closes groups u v) a has_a in
              let (inside_b, shuts_b) = channel-passes groups (closes groups u v) b has_b in
              differ (all_apart inputs accepted u a b (in_use a shuts_a) (in_use b shuts_b)
              (record { ni = λ i. record { 0 = ni i }; shares = inl queue })))
              (channels-differ groups (closes groups u v));
        }

    -- Events of rows in time come no sooner than the first of these may.
    late : (rows : List SwitchRow) (u low : ℕ) → u < length (groups_of inputs.app).uses
        → AreKnown (groups_of inputs.app) rows → AreInTime (run_of inputs).spans u low rows
        → (one : Timed) → Contains (flat_map (events_by inputs) (switches_from u rows)) one
        → low ≤ one.cycle
    late [] u low inside all_known times one has = Contains-nil has
    late (row ∷ rows) u low inside all_known times one has =
        let switch = switch_of u row in
        let next : row.to.0 < length groups.uses = All-head (IsKnown groups) row rows all_known in
        let first = times.0 in
        elim (Contains-append_cases (events_by inputs switch)
        (flat_map (events_by inputs) (switches_from row.to.0 rows)) one
        (rw (flat_map-cons (events_by inputs) switch (switches_from row.to.0 rows)) at has)) [
          | inl here ↦
              let during = event-while groups row_of (run_of inputs).spans switch
              (fits switch inside next) one here in
              let begin = during.first in
              omega (arith, first, begin)
          | inr there ↦
              let behind = late rows row.to.0 (go_by (run_of inputs).spans switch) next
              (All-tail (IsKnown groups) row rows all_known) times.1 one there in
              omega (arith, first, behind)
        ]

    -- So they come in order.
    ordered : (rows : List SwitchRow) (u low : ℕ) → u < length (groups_of inputs.app).uses
        → AreKnown (groups_of inputs.app) rows → AreInTime (run_of inputs).spans u low rows
        → AllPairs Precedes (flat_map (events_by inputs) (switches_from u rows))
    ordered [] u low inside all_known times = pairs-none Precedes
    ordered (row ∷ rows) u low inside all_known times =
        let switch = switch_of u row in
        let later = switches_from row.to.0 rows in
        let next : row.to.0 < length groups.uses = All-head (IsKnown groups) row rows all_known in
        let tail = All-tail (IsKnown groups) row rows all_known in
        let fit = fits switch inside next in
        subst (λ (events : List Timed). AllPairs Precedes events)
        (sym (flat_map-cons (events_by inputs) switch later))
        (pairs-append Precedes (events_by inputs switch) (flat_map (events_by inputs) later)
        (events-precede groups row_of (run_of inputs).spans switch fit)
        (ordered rows row.to.0 (go_by (run_of inputs).spans switch) next tail times.1)
        (λ a b has_a has_b.
        let during = event-while groups row_of (run_of inputs).spans switch fit a has_a in
        let last = during.last in
        let behind = late rows row.to.0 (go_by (run_of inputs).spans switch) next tail times.1 b has_b
        in
        precedes-early a b (omega (arith, last, behind))))

    -- And so do those of all rows.
    all-ordered : (rows : List SwitchRow) → AreKnown (groups_of inputs.app) rows
        → are_apart (run_of inputs).spans rows ≡ Ok tt
        → AllPairs Precedes (flat_map (events_by inputs) (later_switches rows))
    all-ordered [] all_known apart = pairs-none Precedes
    all-ordered (first ∷ rows) all_known apart =
        ordered rows first.to.0 0 (All-head (IsKnown groups) first rows all_known)
        (All-tail (IsKnown groups) first rows all_known)
        (in_time (run_of inputs).spans first.to.0 0 2 rows apart)

    pub timed-precede : AllPairs Precedes (timed_of inputs)
    unfolding timed_of
    timed-precede =
        AllPairs-filter Precedes (λ (x : Timed). nat_lt x.cycle inputs.cycles)
        (flat_map (events_by inputs) (later_switches inputs.switches))
        (all-ordered inputs.switches may.known may.apart)
