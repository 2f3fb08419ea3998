-- Each halt, finish and write of a session below the end of the run is among the events of its cycle.
use Rattle.std.proofs.Common.{◌≡◌, ◌≤◌, ◌<◌, ◌∙◌, ◌+◌, ℕ, true, Contains, None, Option, Some, ap}
use Rattle.std.proofs.Common.{arith, length, refl, slice_get, subst, IfSome, IsTrue, option_map}
use Rattle.std.proofs.Common.{sum_by, unwrap_or}
use Rattle.aeth_base.{specs.declared.ids.Channel.Channel, proofs.Members.Contains-map}
use Rattle.aeth_group.specs.Members.{GroupsData, group_at, groups_of, has_at}
use Rattle.aeth_ni.specs.Program.{write_count}
use Rattle.aeth_ni.specs.declared.row.ChannelRow.{ChannelRow}
use Rattle.aeth_ni.specs.declared.write.Write.{Write}
use Rattle.aeth_ni.specs.declared.write.Write.TheVariants.{ClearRoute, ClearSlot, SetRoute, SetSlot}
use Rattle.aeth_trace.specs.Spans.{SpanData}
use Rattle.aeth_report.specs.Sessions.{Switch, close_by, closes}
use Rattle.aeth_report.specs.SessionList.{ChannelSession, session_list, listed_at, place_at}
use Rattle.aeth_report.proofs.{Stays.IsClosedBy, StaysAlone.at-Contains}
use Rattle.aeth_report.proofs.{SessionNumbers.listed-there}
use Rattle.aeth_reconf.specs.Rows.{RowOf, channels_that, rows_closing, rows_opening, switch_program}
use Rattle.aeth_reconf.specs.Windows.{IsClosed, IsOpened, closing_ahead, freed_of, opening_ahead}
use Rattle.aeth_reconf.specs.Windows.{set_of, set_route, slot_set_of}
use Rattle.aeth_reconf.proofs.WindowLemmas.{channels_that-has}
use Rattle.aeth_reconf.proofs.WriteTimes.{clear_at, free_at, route_at, slot_at as set_slot_at}
use Rattle.aeth_accepted.specs.Inputs.{AreAccepted, Inputs, design_of, row_at, run_of}
use Rattle.aeth_components.specs.declared.event.Event.{Event}
use Rattle.aeth_components.specs.declared.event.Event.TheVariants.{Change, Finish, Halt}
use Rattle.aeth_invariant.specs.RoutedSessions.{flow_at, has_slot, server_at}
use Rattle.aeth_invariant.specs.Switches.{finish_of, freed_of as freed_at, halt_of}
use Rattle.aeth_invariant.specs.Switches.{set_of as set_at}
use Rattle.aeth_routed_sessions.specs.RoutedSessions.{cleared_by, routed_sessions_of, freed_by}
use Rattle.aeth_routed_sessions.specs.RoutedSessions.{row_in, slot_at, slot_freed_in, stays_in}
use Rattle.aeth_routed_sessions.proofs.ApartWires.{past, slot_place}
use Rattle.aeth_refinement.specs.Events.{ni_of, queue_end}
use Rattle.aeth_schedule.specs.{Lines.end_of, Switching.events_by, Switching.later_switches}
use Rattle.aeth_schedule.specs.{Switching.timed_of, declared.timed.Timed.Timed}
use Rattle.aeth_stimuli.proofs.OverChips.{stay_is}
use Rattle.aeth_stimuli.proofs.RunEvents.{happens}
use Rattle.aeth_stimuli.proofs.StaySwitches.{IsAmong, IsOpenedAmong, loaded_use, stay-among}
use Rattle.aeth_stimuli.proofs.SwitchEvents.{has-change, has-finish, has-halt}
use Rattle.aeth_stimuli.proofs.SwitchSessions.{IsClosedWith, IsOpenedWith, closed-with, opened-with}

module _ (inputs : Inputs) (accepted : AreAccepted inputs) where
  abbrev groups : GroupsData
  groups = groups_of inputs.app

  abbrev row_of : RowOf
  row_of = row_at (design_of inputs)

  abbrev spans : SpanData
  spans = (run_of inputs).spans

  -- An event happens in a cycle of the run.
  abbrev pub HappensAt : ℕ → Event → Type 0
  HappensAt t event = Contains (timed_of inputs) (record { cycle = t; event = event })

  module _ (c : ℕ) (within : c < length (session_list (run_of inputs))) where
    abbrev p : ChannelSession
    p = listed_at (run_of inputs) c

    abbrev channel : Channel
    channel = (listed_at (run_of inputs) c).channel

    -- Its stay is opened and closed by switches of the run.
    among : IsAmong (groups_of inputs.app) (listed_at (run_of inputs) c).channel.conn.0
        (loaded_use inputs.switches) (later_switches inputs.switches)
        (listed_at (run_of inputs) c).stay
    among =
        stay-among groups channel.conn.0 inputs.switches p.stay
        (at-Contains (stays_in (run_of inputs) channel.conn.0) (place_at (run_of inputs) c) p.stay
        (listed-there (run_of inputs) c within).stay_at)

    -- The switch that closes it.
    pub record IsShutBy (switch : Switch) : Type 0 where
      pub is_switch : Contains (later_switches inputs.switches) switch
      pub closed : IsClosed (groups_of inputs.app) switch (listed_at (run_of inputs) c).channel
      pub in_group : group_at (groups_of inputs.app) switch.leaves
          ≡ (listed_at (run_of inputs) c).stay.group
      pub with : IsClosedWith inputs (listed_at (run_of inputs) c) switch

    -- Either a switch closes it, or what closes it falls past the end of the run.
    pub data Shuts : Type 0 where
      ByNone : (listed_at (run_of inputs) c).stay.closing ≡ None → Shuts
      BySwitch : (switch : Switch) → IsShutBy switch → Shuts

    pub shuts : Shuts
    shuts =
        let cases : (o : Option Switch) → p.stay.closing ≡ o
        → IfSome o (λ switch. Contains (later_switches inputs.switches) switch)
        → IfSome o (IsClosedBy groups channel.conn.0 p.stay.group) → Shuts = elim [
          | None ↦ λ closing is_switch closer. ByNone closing
          | Some switch ↦ λ closing is_switch closer. BySwitch switch (record {
            is_switch = is_switch;
            closed = record {
              known = (listed-there (run_of inputs) c within).known;
              is = closer.is_closed;
            };
            in_group = closer.in_group;
            with = closed-with inputs p switch closing;
          })
        ] in
        cases p.stay.closing refl among.closing (stay_is inputs accepted c within).closed

    -- The switch that opens it.
    pub record IsOpenBy (switch : Switch) : Type 0 where
      pub is_switch : Contains (later_switches inputs.switches) switch
      pub opened : IsOpened (groups_of inputs.app) switch (listed_at (run_of inputs) c).channel
      pub in_group : group_at (groups_of inputs.app) switch.row.to.0
          ≡ (listed_at (run_of inputs) c).stay.group
      pub with : IsOpenedWith inputs (listed_at (run_of inputs) c) switch

    -- Either it is loaded before the first cycle, or a switch opens it.
    pub data Opens : Type 0 where
      Loaded : (listed_at (run_of inputs) c).stay.opening ≡ None
          → IsTrue (has_at (groups_of inputs.app) (loaded_use inputs.switches)
          (listed_at (run_of inputs) c).channel.conn.0)
          → group_at (groups_of inputs.app) (loaded_use inputs.switches)
          ≡ (listed_at (run_of inputs) c).stay.group → Opens
      Opened : (switch : Switch) → IsOpenBy switch → Opens

    pub opens-by : Opens
    opens-by =
        let cases : (o : Option Switch) → p.stay.opening ≡ o
        → IsOpenedAmong groups channel.conn.0 (loaded_use inputs.switches)
        (later_switches inputs.switches) p.stay.group o → Opens = elim [
          | None ↦ λ opening is. Loaded opening is.0 is.1
          | Some switch ↦ λ opening is. Opened switch (record {
            is_switch = is.0;
            opened = record { known = (listed-there (run_of inputs) c within).known; is = is.1 };
            in_group = is.2;
            with = opened-with inputs p switch opening;
          })
        ] in
        cases p.stay.opening refl among.opening

    -- ---- what no switch closes

    -- A session that no switch closes stops past the end of the run, finishes and is cleared later.
    pub record IsPast : Type 0 where
      pub stop : inputs.cycles ≤ (server_at (routed_sessions_of inputs) c).stop
      pub finish : inputs.cycles ≤ (server_at (routed_sessions_of inputs) c).finish
      pub freed : inputs.cycles < freed_at (routed_sessions_of inputs) c
      pub slot_freed : (x : ℕ) → inputs.cycles < slot_freed_in (run_of inputs)
          (listed_at (run_of inputs) c) x

    pub late : (listed_at (run_of inputs) c).stay.closing ≡ None → IsPast
    late closing =
        let run = run_of inputs in
        let stop : (server_at (routed_sessions_of inputs) c).stop ≡ (past run p).stop =
        ap (λ (o : Option Switch). (unwrap_or (option_map (close_by run.spans) o) (past run p)).stop)
        closing in
        let finish : (server_at (routed_sessions_of inputs) c).finish ≡ (past run p).fin =
        ap (λ (o : Option Switch). (unwrap_or (option_map (close_by run.spans) o) (past run p)).fin)
        closing in
        let freed : freed_at (routed_sessions_of inputs) c
        ≡ (server_at (routed_sessions_of inputs) c).finish + 1 =
        ap (freed_by run p) closing in
        let cleared : (x : ℕ)
        → slot_freed_in run p x ≡ (server_at (routed_sessions_of inputs) c).finish + 1 =
        λ x. ap (cleared_by run p (slot_at run p x)) closing in
        record {
          stop = omega (arith, stop);
          finish = omega (arith, finish);
          freed = omega (arith, freed, finish);
          slot_freed = λ x. let clear = cleared x in omega (arith, clear, finish);
        }

    -- ---- the cycle of each event

    -- The row of the session is that of its channel in the group that a switch leaves or enters.
    pub row-there : (group : ℕ) → group ≡ (listed_at (run_of inputs) c).stay.group
        → row_at (design_of inputs) group (listed_at (run_of inputs) c).channel
        ≡ row_in (run_of inputs) (listed_at (run_of inputs) c)
    row-there group same = ap (λ (g : ℕ). row_of g channel) same

    -- It is among those that close.
    closing-row : (switch : Switch) → IsShutBy switch → Contains (rows_closing (groups_of inputs.app)
        (row_at (design_of inputs)) switch.leaves switch.row.to.0)
        (row_at (design_of inputs) (group_at (groups_of inputs.app) switch.leaves)
        (listed_at (run_of inputs) c).channel)
    closing-row switch is =
        let test = closes groups switch.leaves switch.row.to.0 in
        Contains-map (row_of (group_at groups switch.leaves)) (channels_that groups test) channel
        (channels_that-has groups test channel is.closed.known is.closed.is)

    module _ (t : ℕ) (early : t < inputs.cycles) where
      -- A write of a switch happens.
      write-happens : (switch : Switch) → Contains (later_switches inputs.switches) switch
          → (k : ℕ) (write : Write)
          → slice_get (switch_program (groups_of inputs.app) (row_at (design_of inputs)) switch.leaves
          switch.row.to.0) k ≡ Some write
          → (close_by (run_of inputs).spans switch).fin + k ≡ t → HappensAt t (Change write)
      write-happens switch is_switch k write at time =
          happens inputs accepted switch is_switch (record { cycle = t; event = Change write })
          (has-change (close_by spans switch)
          (rows_closing groups row_of switch.leaves switch.row.to.0)
          (rows_opening groups row_of switch.leaves switch.row.to.0) k t write at time) early

      pub halts : halt_of (routed_sessions_of inputs) c ≡ t + 1
          → HappensAt t (Halt (queue_end (routed_sessions_of inputs) c))
      halts falls = elim shuts [
        | ByNone closing ↦ let stop = (late closing).stop in absurd (omega (arith, stop, falls, early))
        | BySwitch switch is ↦
            let close = close_by spans switch in
            let stop = is.with.stop in
            let now : close.stop ≡ t = omega (arith, stop, falls) in
            let row = row-there (group_at groups switch.leaves) is.in_group in
            happens inputs accepted switch is.is_switch
            (record { cycle = t; event = Halt (queue_end (routed_sessions_of inputs) c) })
            (subst (λ (one : Timed). Contains (events_by inputs switch) one)
            (λ j. record { cycle = now j; event = Halt (end_of (row j)) })
            (has-halt close (rows_closing groups row_of switch.leaves switch.row.to.0)
            (rows_opening groups row_of switch.leaves switch.row.to.0)
            (row_of (group_at groups switch.leaves) channel) (closing-row switch is))) early
      ]

      pub finishes : finish_of (routed_sessions_of inputs) c ≡ t + 1
          → HappensAt t (Finish (queue_end (routed_sessions_of inputs) c))
      finishes falls = elim shuts [
        | ByNone closing ↦
            let finish = (late closing).finish in absurd (omega (arith, finish, falls, early))
        | BySwitch switch is ↦
            let close = close_by spans switch in
            let finish = is.with.finish in
            let now : close.fin ≡ t = omega (arith, finish, falls) in
            let row = row-there (group_at groups switch.leaves) is.in_group in
            happens inputs accepted switch is.is_switch
            (record { cycle = t; event = Finish (queue_end (routed_sessions_of inputs) c) })
            (subst (λ (one : Timed). Contains (events_by inputs switch) one)
            (λ j. record { cycle = now j; event = Finish (end_of (row j)) })
            (has-finish close (rows_closing groups row_of switch.leaves switch.row.to.0)
            (rows_opening groups row_of switch.leaves switch.row.to.0)
            (row_of (group_at groups switch.leaves) channel) (closing-row switch is))) early
      ]

      pub frees : freed_at (routed_sessions_of inputs) c ≡ t + 1
          → HappensAt t (Change (ClearRoute (ni_of (routed_sessions_of inputs) c)
          ((routed_sessions_of inputs).routed_session c).queue))
      frees falls = elim shuts [
        | ByNone closing ↦
            let freed = (late closing).freed in absurd (omega (arith, freed, falls, early))
        | BySwitch switch is ↦
            let group = group_at groups switch.leaves in
            let row = row-there group is.in_group in
            let k = closing_ahead groups row_of switch channel
            + length (row_of group channel).slots.slots in
            let freed = is.with.freed in
            let same = ap (λ (g : ℕ). freed_of groups row_of spans g channel switch) is.in_group in
            let write = λ (r : ChannelRow). ClearRoute r.ni r.queue in
            subst (λ (w : Write). HappensAt t (Change w)) (ap write row)
            (write-happens switch is.is_switch k (write (row_of group channel))
            (free_at groups row_of spans switch channel is.closed k (omega arith))
            (omega (arith, freed, same, falls)))
      ]

      pub sets : set_at (routed_sessions_of inputs) c ≡ t + 1
          → HappensAt t (Change (SetRoute (ni_of (routed_sessions_of inputs) c)
          ((routed_sessions_of inputs).routed_session c).queue
          (flow_at (routed_sessions_of inputs) c).route
          (flow_at (routed_sessions_of inputs) c).remote
          (server_at (routed_sessions_of inputs) c).buffer))
      sets falls = elim opens-by [
        | Loaded opening has same ↦
            let set : set_at (routed_sessions_of inputs) c ≡ 0 =
            ap (set_of groups row_of spans channel) opening in
            absurd (omega (arith, set, falls))
        | Opened switch is ↦
            let group = group_at groups switch.row.to.0 in
            let row = row-there group is.in_group in
            let k = sum_by write_count (rows_closing groups row_of switch.leaves switch.row.to.0)
            + opening_ahead groups row_of switch channel in
            let set = is.with.set in
            subst (λ (w : Write). HappensAt t (Change w)) (ap set_route row)
            (write-happens switch is.is_switch k (set_route (row_of group channel))
            (route_at groups row_of spans switch channel is.opened k (omega arith))
            (omega (arith, set, falls)))
      ]

      -- ---- slots

      module _ (x : ℕ) (own : has_slot (routed_sessions_of inputs) c x ≡ true) where
        abbrev place : ℕ
        place = slot_at (run_of inputs) (listed_at (run_of inputs) c) x

        -- The slot stands at its place in the row.
        slot-there : (group : ℕ) → group ≡ (listed_at (run_of inputs) c).stay.group
            → slice_get
            (row_at (design_of inputs) group (listed_at (run_of inputs) c).channel).slots.slots
            (slot_at (run_of inputs) (listed_at (run_of inputs) c) x) ≡ Some x
        slot-there group same =
            ap (λ (r : ChannelRow). slice_get r.slots.slots place) (row-there group same)
            ∙ slot_place (row_in (run_of inputs) p).slots.slots x own

        pub slots_clear : ((routed_sessions_of inputs).routed_session c).slot_freed x ≡ t + 1
            → HappensAt t (Change (ClearSlot (ni_of (routed_sessions_of inputs) c) x))
        slots_clear falls = elim shuts [
          | ByNone closing ↦
              let freed = (late closing).slot_freed x in absurd (omega (arith, freed, falls, early))
          | BySwitch switch is ↦
              let group = group_at groups switch.leaves in
              let row = row-there group is.in_group in
              let k = closing_ahead groups row_of switch channel + place in
              let freed = is.with.slot_freed x in
              let write = λ (r : ChannelRow). ClearSlot r.ni x in
              subst (λ (w : Write). HappensAt t (Change w)) (ap write row)
              (write-happens switch is.is_switch k (write (row_of group channel))
              (clear_at groups row_of spans switch channel is.closed place x k
              (slot-there group is.in_group) (omega arith)) (omega (arith, freed, falls)))
        ]

        pub slots_set : ((routed_sessions_of inputs).routed_session c).slot_set x ≡ t + 1
            → HappensAt t (Change (SetSlot (ni_of (routed_sessions_of inputs) c) x
            ((routed_sessions_of inputs).routed_session c).queue))
        slots_set falls = elim opens-by [
          | Loaded opening has same ↦
              let set : ((routed_sessions_of inputs).routed_session c).slot_set x ≡ 0 =
              ap (λ (o : Option Switch). slot_set_of groups row_of spans channel o place) opening in
              absurd (omega (arith, set, falls))
          | Opened switch is ↦
              let group = group_at groups switch.row.to.0 in
              let row = row-there group is.in_group in
              let k = sum_by write_count (rows_closing groups row_of switch.leaves switch.row.to.0)
              + opening_ahead groups row_of switch channel + 1 + place in
              let set = is.with.slot_set x in
              let write = λ (r : ChannelRow). SetSlot r.ni x r.queue in
              subst (λ (w : Write). HappensAt t (Change w)) (ap write row)
              (write-happens switch is.is_switch k (write (row_of group channel))
              (set_slot_at groups row_of spans switch channel is.opened place x k
              (slot-there group is.in_group) (omega arith)) (omega (arith, set, falls)))
        ]
