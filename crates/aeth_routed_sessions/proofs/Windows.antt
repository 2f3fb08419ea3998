-- The windows of sessions: their order, and that no two sessions have a queue, a route or an entry at
-- one time.
use Rattle.std.proofs.Common.{◌≡◌, ◌≤◌, ◌<◌, ◌+◌, ◌∙◌, ℕ, suc, true, Option, Some, None, length}
use Rattle.std.proofs.Common.{slice_get, refl, ap, inl, inr, arith, ◌==◌, IfSome, option_map}
use Rattle.std.proofs.Common.{unwrap_or}
use Rattle.std.proofs.Math.Nat.{le-max_right}
use Rattle.std.proofs.lemmas.Option.{slice_get_within}
use Rattle.std.specs.List.{list_any}
use Rattle.aeth_chip.specs.Paths.{path_delay}
use Rattle.aeth_group.specs.Members.{GroupsData}
use Rattle.aeth_report.specs.{Design.grant_at, Flows.Run, Sessions.Switch, Sessions.close_by}
use Rattle.aeth_report.specs.{Sessions.go_of, Sound.IsSound, SessionList.ChannelSession}
use Rattle.aeth_report.specs.{SessionList.session_list, SessionList.listed_at, SessionList.place_at}
use Rattle.aeth_report.proofs.Stays.{IsClosedBy, IsStayOf, stays_of-is}
use Rattle.aeth_report.proofs.StaysAlone.{at-Contains}
use Rattle.aeth_report.proofs.SessionNumbers.{IsListedAt, listed-there, numbered, one_number}
use Rattle.aeth_reconf.specs.Rows.{RowOf}
use Rattle.aeth_reconf.specs.Windows.{AreAllApart, AreQueuesApart, AreWritable, IsHandedOn}
use Rattle.aeth_reconf.specs.Windows.{IsInOrder, IsOwned, IsSlotInOrder, IsSlotWritten, IsStayAt}
use Rattle.aeth_reconf.specs.Windows.{IsWritten, cleared_of, freed_of, set_of}
use Rattle.aeth_reconf.proofs.OneWritten.{slot_one, written_one}
use Rattle.aeth_reconf.proofs.Owners.{follows, owned_first, owned_one}
use Rattle.aeth_reconf.proofs.WindowLemmas.{in_order, slots_in_order}
use Rattle.aeth_invariant.specs.WellRouted.{HasEntry, HasRoute, HasOrderedCycles}
use Rattle.aeth_invariant.specs.RoutedSessions.{IsSameQueue, Owns, server_at}
use Rattle.aeth_accepted.specs.Inputs.{row_at}
use Rattle.aeth_routed_sessions.specs.RoutedSessions.{entered_by, cleared_by, routed_sessions_over}
use Rattle.aeth_routed_sessions.specs.RoutedSessions.{flow_in, freed_by, freed_in}
use Rattle.aeth_routed_sessions.specs.RoutedSessions.{routed_session_of, row_in, slot_at}
use Rattle.aeth_routed_sessions.specs.RoutedSessions.{slot_freed_in, slot_set_in, stays_in}
use Rattle.aeth_routed_sessions.proofs.ApartWires.{past, slot_place}
use Rattle.aeth_routed_sessions.proofs.PathWires.{length-wires_along}

module _ (run : Run) where
  abbrev groups : GroupsData
  groups = run.design.groups

  abbrev rows_at : RowOf
  rows_at = row_at run.design

  -- The tables of a run can be written.
  abbrev pub AreWritten : Type 0
  AreWritten = AreWritable run.design.groups (row_at run.design) run.spans run.switches

  -- A session's stay.
  stay : (c : ℕ) (p : ChannelSession) → IsListedAt run c p
      → IsStayAt run.design.groups run.switches p.channel (place_at run c) p.stay
  stay c p is = record { known = is.known; at = is.stay_at }

  -- How it closes, by the switch that closes it.
  abbrev fin_by : ChannelSession → Option Switch → ℕ
  fin_by p o = (unwrap_or (option_map (close_by run.spans) o) (past run p)).fin

  abbrev stop_by : ChannelSession → Option Switch → ℕ
  stop_by p o = (unwrap_or (option_map (close_by run.spans) o) (past run p)).stop

  -- ---- the order of its cycles

  module _ (sound : IsSound run) (may : AreWritten) (c : ℕ) (p : ChannelSession)
      (is : IsListedAt run c p) where
    of : IsStayOf run.design.groups p.channel.conn.0 p.stay
    of = stays_of-is run.design.groups p.channel.conn.0 run.switches p.stay sound.known
        (at-Contains (stays_in run p.channel.conn.0) (place_at run c) p.stay is.stay_at)

    ordered_route : IsInOrder run.design.groups (row_at run.design) run.spans p.channel p.stay
    ordered_route = in_order run.design.groups (row_at run.design) run.spans run.switches may p.channel
        (place_at run c) p.stay (stay c p is)

    -- It goes before it stops, and stops by its finish.
    stops : go_of run.spans p.stay.opening ≤ (flow_in run p).server.stop
    stops =
        let go = go_of run.spans p.stay.opening in
        let cases : (o : Option Switch)
        → IfSome o (λ switch. go ≤ (close_by run.spans switch).until) → go ≤ stop_by p o = elim [
          | None ↦ λ none. le-max_right run.cycles go
          | Some switch ↦ λ until. omega (arith, until)
        ] in
        cases p.stay.closing ordered_route.then_until

    -- What it has sent by its stop has landed by its finish.
    drains : (flow_in run p).server.stop + path_delay run.design.chip.links (flow_in run p).path
        ≤ (flow_in run p).server.finish
    drains =
        let delay_in : ℕ → ℕ =
        λ group. path_delay run.design.chip.links (grant_at run.design p.channel group).path in
        let few = (sound.granted.paths of.use_case p.channel of.has).few in
        let group = ap delay_in of.in_group in
        let cases : (o : Option Switch)
        → IfSome o (IsClosedBy run.design.groups p.channel.conn.0 p.stay.group)
        → stop_by p o + delay_in p.stay.group ≤ fin_by p o = elim [
          | None ↦ λ closed. omega (arith, few, group)
          | Some switch ↦ λ closed.
              let above =
              sound.lags switch.leaves switch.row.to.0 p.channel closed.known closed.is_closed in
              let same = ap delay_in closed.in_group in
              omega (arith, above, same)
        ] in
        cases p.stay.closing of.closed

    finishes : (flow_in run p).server.stop ≤ (flow_in run p).server.finish
    finishes = let all = drains in omega (arith, all)

    -- Its route is cleared once it has finished.
    frees : (flow_in run p).server.finish < freed_in run p
    frees =
        let cases : (o : Option Switch) → IfSome o (λ switch. (close_by run.spans switch).fin
        < freed_of run.design.groups (row_at run.design) run.spans p.stay.group p.channel switch)
        → p.stay.closing ≡ o → fin_by p o < freed_by run p o = elim [
          | None ↦ λ none closing.
              let same : (flow_in run p).server.finish ≡ fin_by p None = ap (fin_by p) closing in
              omega (arith, same)
          | Some switch ↦ λ free closing. free
        ] in
        cases p.stay.closing ordered_route.then_free refl

    -- A slot of its own.
    module _ (x : ℕ)
        (own : list_any (λ o. x == o) (flow_in run p).server.shape.slots ≡ true) where
      at_slot : slice_get (row_in run p).slots.slots (slot_at run p x) ≡ Some x
      at_slot = slot_place (row_in run p).slots.slots x own

      ordered_slot : IsSlotInOrder run.design.groups (row_at run.design) run.spans p.channel p.stay
          (slot_at run p x)
      ordered_slot = slots_in_order run.design.groups (row_at run.design) run.spans run.switches may
          p.channel (place_at run c) p.stay (stay c p is) (slot_at run p x)
          (slice_get_within (row_in run p).slots.slots (slot_at run p x) x at_slot)

      clears : (flow_in run p).server.finish < slot_freed_in run p x
      clears =
          let k = slot_at run p x in
          let cases : (o : Option Switch) → IfSome o (λ switch. (close_by run.spans switch).fin
          < cleared_of run.design.groups (row_at run.design) run.spans p.channel switch k)
          → p.stay.closing ≡ o → fin_by p o < cleared_by run p k o = elim [
            | None ↦ λ none closing.
                let same : (flow_in run p).server.finish ≡ fin_by p None = ap (fin_by p) closing in
                omega (arith, same)
            | Some switch ↦ λ clear closing. clear
          ] in
          cases p.stay.closing ordered_slot.then_clear refl

      clears_first : slot_freed_in run p x ≤ freed_in run p
      clears_first =
          let k = slot_at run p x in
          let cases : (o : Option Switch) → IfSome o (λ switch.
          cleared_of run.design.groups (row_at run.design) run.spans p.channel switch k
          < freed_of run.design.groups (row_at run.design) run.spans p.stay.group p.channel switch)
          → cleared_by run p k o ≤ freed_by run p o = elim [
            | None ↦ λ none. omega arith
            | Some switch ↦ λ free. omega (arith, free)
          ] in
          cases p.stay.closing ordered_slot.then_free

    -- Its queue is its own from the start, or from the finish of the session before it.
    handed_on : IsHandedOn run.spans (stays_in run p.channel.conn.0) (place_at run c) → (d : ℕ)
        × (d < length (session_list run))
        × (suc (flow_in run (listed_at run d)).server.finish
        ≡ (routed_session_of run (place_at run c) p).since)
        × ((row_in run (listed_at run d)).ni.0 ≡ (row_in run p).ni.0)
        × ((row_in run (listed_at run d)).queue ≡ (row_in run p).queue)
    handed_on handed =
        let found = numbered run p.channel handed.before handed.stay is.known handed.at in
        let d = found.number in
        let same = found.is in
        let q : ChannelSession = record { channel = p.channel; stay = handed.stay } in
        let finish : (flow_in run (listed_at run d)).server.finish
        ≡ (close_by run.spans handed.switch).fin =
        ap (λ (z : ChannelSession). (flow_in run z).server.finish) same
        ∙ ap (fin_by q) handed.closing in
        let since = handed.since in (
          d,
          found.known,
          omega (arith, finish, since),
          ap (λ (z : ChannelSession). (row_in run z).ni.0) same,
          ap (λ (z : ChannelSession). (row_in run z).queue) same,
        )

  -- What a session has sent by its stop has landed by its finish.
  pub drained : IsSound run → AreWritten → (c : ℕ) → c < length (session_list run)
      → (server_at (routed_sessions_over run) c).stop
      + length ((routed_sessions_over run).routed_session c).wires
      ≤ (server_at (routed_sessions_over run) c).finish
  drained sound may c within =
      let p = listed_at run c in
      let drain = drains sound may c p (listed-there run c within) in
      let count = length-wires_along run.design.chip.links (flow_in run p).path in
      omega (arith, drain, count)

  -- A use case is entered before the sessions go that come with it.
  enters-first : (opening : Option Switch) → entered_by run opening ≤ go_of run.spans opening
  enters-first None = omega arith
  enters-first (Some switch) = omega arith

  -- So the cycles of each session are in order.
  pub ordered : IsSound run → AreWritten → (c : ℕ) → c < length (session_list run)
      → HasOrderedCycles (routed_sessions_over run) c
  ordered sound may c within =
      let p = listed_at run c in
      let is = listed-there run c within in
      let route = ordered_route sound may c p is in
      let first = route.first_set in
      let go_stop = stops sound may c p is in
      let stop_fin = finishes sound may c p is in
      let free = frees sound may c p is in
      record {
        set_since = owned_first run.design.groups (row_at run.design) run.spans run.switches may
            p.channel (place_at run c) p.stay (stay c p is);
        set_go = first;
        entered_go = enters-first p.stay.opening;
        set_stop = omega (arith, first, go_stop);
        stop_freed = omega (arith, stop_fin, free);
        slot_after = λ x own. (ordered_slot sound may c p is x own).behind_route;
        slot_before = λ x own. (ordered_slot sound may c p is x own).then_go;
        slot_stop = λ x own.
            let clear = clears sound may c p is x own in omega (arith, clear, stop_fin);
        slot_lasts = λ x own.
            let clear = clears sound may c p is x own in
            let set = (ordered_slot sound may c p is x own).then_go in
            omega (arith, clear, stop_fin, go_stop, set);
        slot_freed = λ x own. clears_first sound may c p is x own;
        follows =
            elim (follows run.design.groups (row_at run.design) run.spans run.switches may
            p.channel (place_at run c) p.stay (stay c p is)) [
              | inl start ↦ inl start
              | inr handed ↦
                  let (d, known, since, ni, queue) = handed_on sound may c p is handed in
                  inr (d, known, since, record { ni = ni; queue = queue })
            ];
      }

  -- ---- one session at a time

  -- It has its queues.
  owned : (place : ℕ) (p : ChannelSession) (t : ℕ) → (routed_session_of run place p).since ≤ t
      → t ≤ (flow_in run p).server.finish
      → IsOwned run.spans (stays_in run p.channel.conn.0) place p.stay t
  owned place p t since finish =
      let cases : (o : Option Switch) → t ≤ fin_by p o
      → IfSome o (λ switch. t ≤ (close_by run.spans switch).fin) = elim [
        | None ↦ λ below. tt
        | Some switch ↦ λ below. below
      ] in
      record { since = since; unfinished = cases p.stay.closing finish }

  -- When its route is set.
  abbrev set_in : ChannelSession → ℕ
  set_in p = set_of run.design.groups (row_at run.design) run.spans p.channel p.stay.opening

  -- Its route stands written.
  route_written : (p : ChannelSession) (t : ℕ) → set_in p ≤ t → t < freed_in run p
      → IsWritten run.design.groups (row_at run.design) run.spans p.channel p.stay t
  route_written p t set freed =
      let cases : (o : Option Switch) → t < freed_by run p o → IfSome o (λ switch.
      t < freed_of run.design.groups (row_at run.design) run.spans p.stay.group p.channel switch) =
      elim [
        | None ↦ λ below. tt
        | Some switch ↦ λ below. below
      ] in
      record { set = set; unfreed = cases p.stay.closing freed }

  -- So does its entry of a slot.
  slot_written : (p : ChannelSession) (x t : ℕ)
      → list_any (λ own. x == own) (flow_in run p).server.shape.slots ≡ true
      → slot_set_in run p x ≤ t → t < slot_freed_in run p x
      → IsSlotWritten run.design.groups (row_at run.design) run.spans p.channel p.stay
      (slot_at run p x) x t
  slot_written p x t own set freed =
      let k = slot_at run p x in
      let cases : (o : Option Switch) → t < cleared_by run p k o → IfSome o (λ switch.
      t < cleared_of run.design.groups (row_at run.design) run.spans p.channel switch k) = elim [
        | None ↦ λ below. tt
        | Some switch ↦ λ below. below
      ] in
      record {
        is = slot_place (row_in run p).slots.slots x own;
        set = set;
        uncleared = cases p.stay.closing freed;
      }

  -- Interfaces of one number are one.
  one_ni : (p q : ChannelSession) → (row_in run p).ni.0 ≡ (row_in run q).ni.0
      → (row_in run p).ni ≡ (row_in run q).ni
  one_ni p q same = λ i. record { 0 = same i }

  module _ (may : AreWritten) (c d : ℕ) (known_c : c < length (session_list run))
      (known_d : d < length (session_list run)) where
    -- Sessions of one channel at one place are one.
    one_place : ((listed_at run c).channel ≡ (listed_at run d).channel)
        × (place_at run c ≡ place_at run d) → c ≡ d
    one_place same = one_number run c d known_c known_d same.0 same.1

    pub one_queue : AreQueuesApart run.design.groups (row_at run.design) → (t : ℕ)
        → Owns (routed_sessions_over run) c t → Owns (routed_sessions_over run) d t
        → IsSameQueue (routed_sessions_over run) c d → c ≡ d
    one_queue apart t one two same =
        let p = listed_at run c in
        let q = listed_at run d in
        one_place (owned_one run.design.groups (row_at run.design) run.spans run.switches may apart
        p.channel q.channel (place_at run c) (place_at run d) p.stay q.stay
        (stay c p (listed-there run c known_c)) (stay d q (listed-there run d known_d)) t
        (owned (place_at run c) p t one.since one.finish)
        (owned (place_at run d) q t two.since two.finish) (one_ni p q same.ni) same.queue)

    pub one_route : AreAllApart run.design.groups (row_at run.design) → (t : ℕ)
        → HasRoute (routed_sessions_over run) c t → HasRoute (routed_sessions_over run) d t
        → IsSameQueue (routed_sessions_over run) c d → c ≡ d
    one_route apart t one two same =
        let p = listed_at run c in
        let q = listed_at run d in
        one_place (written_one run.design.groups (row_at run.design) run.spans run.switches may apart
        p.channel q.channel (place_at run c) (place_at run d) p.stay q.stay t (record {
          first = stay c p (listed-there run c known_c);
          second = stay d q (listed-there run d known_d);
          written = route_written p t one.set one.freed;
          written_too = route_written q t two.set two.freed;
        }) (record { ni = one_ni p q same.ni; shares = inl same.queue }))

    pub one_entry : AreAllApart run.design.groups (row_at run.design) → (x t : ℕ)
        → HasEntry (routed_sessions_over run) c x t → HasEntry (routed_sessions_over run) d x t
        → (row_in run (listed_at run c)).ni.0 ≡ (row_in run (listed_at run d)).ni.0 → c ≡ d
    one_entry apart x t one two same =
        let p = listed_at run c in
        let q = listed_at run d in
        one_place (slot_one run.design.groups (row_at run.design) run.spans run.switches may apart
        p.channel q.channel (place_at run c) (place_at run d) p.stay q.stay
        (stay c p (listed-there run c known_c)) (stay d q (listed-there run d known_d))
        (slot_at run p x) (slot_at run q x) x t
        (slot_written p x t one.uses one.set one.freed) (slot_written q x t two.uses two.set two.freed)
        (one_ni p q same))
