-- Each event of a run is one of a session, in the cycle of that.
use Rattle.std.proofs.Common.{◌≡◌, ◌<◌, ◌∙◌, ◌+◌, ℕ, zero, suc, true, Contains, Some, ap, arith}
use Rattle.std.proofs.Common.{get_or, inl, inr, length, slice_get, subst, sym, ◌==◌, not}
use Rattle.std.proofs.lemmas.Bool.{and_parts, cases_lt}
use Rattle.std.proofs.lemmas.Option.{same_Some, slice_get-get_or, slice_get_within}
use Rattle.std.specs.List.{list_any, position_or_len}
use Rattle.aeth_base.{specs.declared.ids.Channel.Channel, proofs.Members.map-Contains}
use Rattle.aeth_slots.specs.SlotSet.{Ascends}
use Rattle.aeth_group.specs.Members.{GroupsData, group_at, groups_of, has_at, is_kept}
use Rattle.aeth_ni.specs.declared.row.ChannelRow.{ChannelRow}
use Rattle.aeth_ni.specs.declared.write.Write.{Write}
use Rattle.aeth_ni.specs.declared.write.Write.TheVariants.{ClearRoute, ClearSlot, SetSlot}
use Rattle.aeth_trace.specs.Spans.{SpanData}
use Rattle.aeth_report.specs.Sessions.{Switch, close_by, closes}
use Rattle.aeth_report.specs.SessionList.{listed_at}
use Rattle.aeth_reconf.specs.Rows.{RowOf, channels_that, rows_closing, rows_opening, switch_program}
use Rattle.aeth_reconf.specs.Windows.{IsClosed, IsClosingWrite, IsOpened, IsOpeningWrite}
use Rattle.aeth_reconf.specs.Windows.{cleared_of, clears_from, freed_of, set_of, set_route}
use Rattle.aeth_reconf.proofs.WritePlaces.{of_channel}
use Rattle.aeth_reconf.proofs.WriteTimes.{clear_at, free_at, route_at, slot_at as set_slot_at}
use Rattle.aeth_accepted.specs.Inputs.{AreAccepted, Inputs, design_of, row_at, run_of}
use Rattle.aeth_components.specs.declared.event.Event.{Event}
use Rattle.aeth_routed_sessions.specs.RoutedSessions.{routed_sessions_of, slot_at}
use Rattle.aeth_invariant.specs.Switches.{IsEntryAt, finish_of, freed_of as freed_at, halt_of}
use Rattle.aeth_invariant.specs.Switches.{set_of as set_at}
use Rattle.aeth_refinement.specs.Events.{IsEventOf, IsWriteOf, OnQueue, OnSlot}
use Rattle.aeth_schedule.specs.Switching.{events_by, later_switches}
use Rattle.aeth_schedule.specs.declared.timed.Timed.{Timed}
use Rattle.aeth_stimuli.proofs.OverChips.{rows_known}
use Rattle.aeth_stimuli.proofs.Pairs.{channel-passes}
use Rattle.aeth_stimuli.proofs.RunEvents.{granted-in}
use Rattle.aeth_stimuli.proofs.SwitchEvents.{IsChange, IsFinish, IsHalt, event-by}
use Rattle.aeth_stimuli.proofs.SwitchSessions.{IsClosedAt, IsIn, closed-at, closed-with, opened-at}
use Rattle.aeth_stimuli.proofs.SwitchSessions.{opened-with, own-slot, row-is, slot-between}

module _ (inputs : Inputs) (accepted : AreAccepted inputs) where
  abbrev groups : GroupsData
  groups = groups_of inputs.app

  abbrev row_of : RowOf
  row_of = row_at (design_of inputs)

  abbrev spans : SpanData
  spans = (run_of inputs).spans

  -- What falls on the queue of a row is of the row's session.
  abbrev pub on-queue : (cycle : ℕ → ℕ) (e c group : ℕ) (channel : Channel) → IsIn inputs c group channel
      → cycle c ≡ e
      → OnQueue (routed_sessions_of inputs) cycle e (row_at (design_of inputs) group channel).ni
      (row_at (design_of inputs) group channel).queue
  on-queue cycle e c group channel is falls =
      let same = row-is inputs c group channel is in
      record {
        session = c;
        known = is.known;
        falls = falls;
        ni_is = ap (λ (row : ChannelRow). row.ni.0) same;
        queue_is = ap (λ (row : ChannelRow). row.queue) same;
      }

  -- The slots of a channel of a use case ascend.
  pub slots-ascend : (u : ℕ) (channel : Channel)
      → has_at (groups_of inputs.app) u channel.conn.0 ≡ true
      → Ascends 0 inputs.chip.slots
      (row_at (design_of inputs) (group_at (groups_of inputs.app) u) channel).slots.slots
  slots-ascend u channel has = (granted-in inputs accepted u channel has).ascends

  -- A slot of a row is that of the row's session.
  pub on-slot : (u c x i : ℕ) (channel : Channel)
      → has_at (groups_of inputs.app) u channel.conn.0 ≡ true
      → IsIn inputs c (group_at (groups_of inputs.app) u) channel
      → slice_get (row_at (design_of inputs) (group_at (groups_of inputs.app) u) channel).slots.slots i
      ≡ Some x
      → (slot_at (run_of inputs) (listed_at (run_of inputs) c) x ≡ i)
      × (x < inputs.chip.slots)
      × IsEntryAt (routed_sessions_of inputs)
      (row_at (design_of inputs) (group_at (groups_of inputs.app) u) channel).ni.0 x c
  on-slot u c x i channel has is at =
      let row = row_of (group_at groups u) channel in
      let ascends = slots-ascend u channel has in
      let own = own-slot 0 inputs.chip.slots row.slots.slots i x ascends at in
      let same = row-is inputs c (group_at groups u) channel is in (
        ap (λ (r : ChannelRow). position_or_len (λ one. x == one) r.slots.slots) same ∙ own.place,
        (slot-between 0 inputs.chip.slots row.slots.slots i x ascends at).1,
        record {
          known = is.known;
          uses = ap (λ (r : ChannelRow). list_any (λ one. x == one) r.slots.slots) same ∙ own.own;
          ni = ap (λ (r : ChannelRow). r.ni.0) same;
        },
      )

  module _ (switch : Switch) (is_switch : Contains (later_switches inputs.switches) switch) where
    abbrev u : ℕ
    u = switch.leaves

    abbrev v : ℕ
    v = switch.row.to.0

    -- A channel that a switch closes is of the use case that it leaves.
    left-has : (channel : Channel) → IsClosed (groups_of inputs.app) switch channel
        → has_at (groups_of inputs.app) switch.leaves channel.conn.0 ≡ true
    left-has channel closed =
        (and_parts (has_at groups u channel.conn.0) (not (is_kept groups u v channel.conn.0))
        closed.is).0

    entered-has : (channel : Channel) → IsOpened (groups_of inputs.app) switch channel
        → has_at (groups_of inputs.app) switch.row.to.0 channel.conn.0 ≡ true
    entered-has channel opened =
        (and_parts (has_at groups v channel.conn.0) (not (is_kept groups u v channel.conn.0))
        opened.is).0

    closing-session : (channel : Channel) → IsClosed (groups_of inputs.app) switch channel
        → IsClosedAt inputs switch channel
    closing-session channel closed =
        closed-at inputs switch is_switch channel (rows_known inputs accepted) closed

    -- The channel of a row that closes.
    row-closed : (row : ChannelRow) → Contains (rows_closing (groups_of inputs.app)
        (row_at (design_of inputs)) switch.leaves switch.row.to.0) row
        → (channel : Channel) × IsClosed (groups_of inputs.app) switch channel
        × (row_at (design_of inputs) (group_at (groups_of inputs.app) switch.leaves) channel ≡ row)
    row-closed row has =
        let (channel, same, listed) = map-Contains (row_of (group_at groups u))
        (channels_that groups (closes groups u v)) row has in
        let (known, is) = channel-passes groups (closes groups u v) channel listed in
        (channel, record { known = known; is = is }, same)

    -- A write that closes a channel is one of its session.
    closing-write : (k t : ℕ) (write : Write)
        → slice_get (switch_program (groups_of inputs.app) (row_at (design_of inputs)) switch.leaves
        switch.row.to.0) k ≡ Some write
        → t + 1 ≡ clears_from (run_of inputs).spans switch + k
        → IsClosingWrite (groups_of inputs.app) (row_at (design_of inputs)) (run_of inputs).spans switch
        k
        → IsWriteOf (routed_sessions_of inputs) (t + 1) write
    closing-write k t write at now closing =
        let channel = closing.channel in
        let row = row_of (group_at groups u) channel in
        let session = closing-session channel closing.closed in
        let p = listed_at (run_of inputs) session.c in
        let with = closed-with inputs p switch session.closing in
        let time = closing.time in
        let inside = closing.inside in
        let ahead : cleared_of groups row_of spans p.channel switch
        ≡ cleared_of groups row_of spans channel switch =
        ap (λ (ch : Channel). cleared_of groups row_of spans ch switch) session.is.channel_is in
        elim (cases_lt closing.i (length row.slots.slots)) [
          | inl slots ↦
              let x = get_or row.slots.slots closing.i 0 in
              let there = slice_get-get_or row.slots.slots closing.i 0 slots in
              let same = same_Some (ClearSlot row.ni x) write
              (sym (clear_at groups row_of spans switch channel closing.closed closing.i x k there time)
              ∙ at) in
              let (place, small, entry) = on-slot u session.c x closing.i channel
              (left-has channel closing.closed) session.is there in
              let freed = with.slot_freed x
              ∙ (λ j. ahead j (place j)) in
              let slot : OnSlot (routed_sessions_of inputs)
              (λ routed_session. routed_session.slot_freed) (t + 1) row.ni x =
              record {
                session = session.c;
                at = entry;
                falls = omega (arith, freed, now, time);
                within = small;
              } in
              subst (λ (w : Write). IsWriteOf (routed_sessions_of inputs) (t + 1) w) same slot
          | inr route ↦
              let last : closing.i ≡ length row.slots.slots = omega (arith, inside, route) in
              let free : freed_of groups row_of spans (group_at groups u) channel switch ≡ t + 1 =
              omega (arith, last, now, time) in
              let same = same_Some (ClearRoute row.ni row.queue) write
              (sym (free_at groups row_of spans switch channel closing.closed k
              (omega (arith, free, now))) ∙ at) in
              let group = ap (λ (g : ℕ). freed_of groups row_of spans g p.channel switch)
              session.is.group_is in
              let own = ap (λ (ch : Channel).
              freed_of groups row_of spans (group_at groups u) ch switch) session.is.channel_is in
              let queue = on-queue (freed_at (routed_sessions_of inputs)) (t + 1) session.c
              (group_at groups u)
              channel session.is (with.freed ∙ group ∙ own ∙ free) in
              subst (λ (w : Write). IsWriteOf (routed_sessions_of inputs) (t + 1) w) same queue
        ]

    -- So is one that opens a channel.
    opening-write : (k t : ℕ) (write : Write)
        → slice_get (switch_program (groups_of inputs.app) (row_at (design_of inputs)) switch.leaves
        switch.row.to.0) k ≡ Some write
        → t + 1 ≡ clears_from (run_of inputs).spans switch + k
        → IsOpeningWrite (groups_of inputs.app) (row_at (design_of inputs)) (run_of inputs).spans switch
        k
        → IsWriteOf (routed_sessions_of inputs) (t + 1) write
    opening-write k t write at now opening =
        let channel = opening.channel in
        let row = row_of (group_at groups v) channel in
        let session = opened-at inputs switch is_switch channel opening.opened in
        let p = listed_at (run_of inputs) session.c in
        let with = opened-with inputs p switch session.opening_is in
        let own : set_of groups row_of spans p.channel (Some switch)
        ≡ set_of groups row_of spans channel (Some switch) =
        ap (λ (ch : Channel). set_of groups row_of spans ch (Some switch)) session.is.channel_is in
        let cases : (i : ℕ) → i < length row.slots.slots + 1
        → clears_from spans switch + k ≡ set_of groups row_of spans channel (Some switch) + i
        → IsWriteOf (routed_sessions_of inputs) (t + 1) write = elim [
          | zero ↦ λ inside time.
              let same = same_Some (set_route row) write
              (sym (route_at groups row_of spans switch channel opening.opened k (omega (arith, time)))
              ∙ at) in
              let set = with.set in
              let flow = row-is inputs session.c (group_at groups v) channel session.is in
              let route : IsWriteOf (routed_sessions_of inputs) (t + 1) (set_route row) = record {
                on = on-queue (set_at (routed_sessions_of inputs)) (t + 1) session.c
                    (group_at groups v) channel
                    session.is (omega (arith, set, own, time, now));
                route_is = sym (ap (λ (r : ChannelRow). r.route) flow);
                remote_is = sym (ap (λ (r : ChannelRow). r.remote) flow);
                credits_are = sym (ap (λ (r : ChannelRow). r.credits) flow);
              } in
              subst (λ (w : Write). IsWriteOf (routed_sessions_of inputs) (t + 1) w) same route
          | suc i ↦ λ inside time.
              let x = get_or row.slots.slots i 0 in
              let there = slice_get-get_or row.slots.slots i 0 (omega (arith, inside)) in
              let same = same_Some (SetSlot row.ni x row.queue) write
              (sym (set_slot_at groups row_of spans switch channel opening.opened i x k there
              (omega (arith, time))) ∙ at) in
              let (place, small, entry) = on-slot v session.c x i channel
              (entered-has channel opening.opened) session.is there in
              let set = with.slot_set x in
              let flow = row-is inputs session.c (group_at groups v) channel session.is in
              let slot : IsWriteOf (routed_sessions_of inputs) (t + 1)
              (SetSlot row.ni x row.queue) = record {
                on = record {
                  session = session.c;
                  at = entry;
                  falls = omega (arith, set, place, own, time, now);
                  within = small;
                };
                queue_is = sym (ap (λ (r : ChannelRow). r.queue) flow);
              } in
              subst (λ (w : Write). IsWriteOf (routed_sessions_of inputs) (t + 1) w) same slot
        ] in
        cases opening.i opening.inside opening.time

    -- Each event of the switch is one of a session.
    pub event-is : (one : Timed) → Contains (events_by inputs switch) one
        → IsEventOf (routed_sessions_of inputs) (one.cycle + 1) one.event
    event-is one has =
        let close = close_by spans switch in
        let closing = rows_closing groups row_of u v in
        let opening = rows_opening groups row_of u v in
        let sessions = routed_sessions_of inputs in
        let e = one.cycle + 1 in
        elim (event-by close closing opening one has) [
          | IsHalt row is_in time event ↦
              let (channel, closed, same) = row-closed row is_in in
              let session = closing-session channel closed in
              let stop = (closed-with inputs (listed_at (run_of inputs) session.c) switch
              session.closing).stop in
              let queue = on-queue (halt_of sessions) e session.c (group_at groups u) channel
              session.is
              (omega (arith, stop, time)) in
              subst (λ (x : Event). IsEventOf sessions e x) (sym event)
              (subst (λ (r : ChannelRow). OnQueue sessions (halt_of sessions) e r.ni r.queue) same
              queue)
          | IsFinish row is_in time event ↦
              let (channel, closed, same) = row-closed row is_in in
              let session = closing-session channel closed in
              let finish = (closed-with inputs (listed_at (run_of inputs) session.c) switch
              session.closing).finish in
              let queue = on-queue (finish_of sessions) e session.c (group_at groups u) channel
              session.is
              (omega (arith, finish, time)) in
              subst (λ (x : Event). IsEventOf sessions e x) (sym event)
              (subst (λ (r : ChannelRow). OnQueue sessions (finish_of sessions) e r.ni r.queue) same
              queue)
          | IsChange change ↦
              let k = change.k in
              let now = change.cycle_is in
              let program = switch_program groups row_of u v in
              let inside = slice_get_within program k change.write change.at in
              let by = of_channel groups row_of spans switch k inside in
              let write : IsWriteOf sessions e change.write = elim by [
                | inl shuts ↦ closing-write k one.cycle change.write change.at (omega (arith, now)) shuts
                | inr starts ↦
                    opening-write k one.cycle change.write change.at (omega (arith, now)) starts
              ] in
              subst (λ (x : Event). IsEventOf sessions e x) (sym change.event_is) write
        ]
