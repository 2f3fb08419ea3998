-- What is written before the first cycle are the events of routed sessions that fall there.
use Rattle.std.proofs.Common.{◌≡◌, ◌<◌, ◌∙◌, ℕ, true, List, [], ◌∷◌, Contains, Option, Some, ap}
use Rattle.std.proofs.Common.{arith, length, map, refl, slice_get, subst, sym, None, Ok}
use Rattle.std.specs.List.{AllPairs, flat_map}
use Rattle.aeth_base.specs.declared.ids.Channel.{Channel}
use Rattle.aeth_base.proofs.Members.{Contains-flat_map, Contains-here, Contains-map, Contains-there}
use Rattle.aeth_base.proofs.Members.{flat_map-Contains, map-Contains}
use Rattle.aeth_slots.specs.SlotSet.{Ascends}
use Rattle.aeth_group.specs.Members.{GroupsData, group_at, groups_of, has_at}
use Rattle.aeth_ni.specs.Program.{opening_writes}
use Rattle.aeth_ni.specs.declared.row.ChannelRow.{ChannelRow}
use Rattle.aeth_ni.specs.declared.write.Write.{Write, TheVariants.SetRoute, TheVariants.SetSlot}
use Rattle.aeth_trace.specs.{Spans.SpanData, Switches.is_first_at_zero}
use Rattle.aeth_trace.specs.{declared.switches.SwitchRow.SwitchRow}
use Rattle.aeth_report.specs.Sessions.{Stay, Switch}
use Rattle.aeth_report.specs.SessionList.{ChannelSession, session_list, listed_at}
use Rattle.aeth_report.proofs.SessionNumbers.{listed-there}
use Rattle.aeth_reconf.specs.Rows.{Meets, RowOf, channels_that, rows_that}
use Rattle.aeth_reconf.specs.Windows.{set_of, set_route, slot_set_of}
use Rattle.aeth_reconf.proofs.WindowLemmas.{channels_that-has}
use Rattle.aeth_tables.proofs.ListLaws.{has_place, place_in}
use Rattle.aeth_accepted.specs.Inputs.{AreAccepted, Inputs, design_of, row_at, run_of}
use Rattle.aeth_accepted.proofs.ApartRows.{all_apart}
use Rattle.aeth_components.specs.declared.event.Event.{Event, TheVariants.Change}
use Rattle.aeth_invariant.specs.RoutedSessions.{flow_at, has_slot, server_at}
use Rattle.aeth_invariant.specs.Switches.{freed_of as freed_at, set_of as set_at}
use Rattle.aeth_routed_sessions.specs.RoutedSessions.{routed_sessions_of, row_in, slot_at}
use Rattle.aeth_routed_sessions.proofs.ApartWires.{slot_place}
use Rattle.aeth_refinement.specs.Events.{AreEvents, IsEventOf, IsWriteOf, Occurs, ni_of}
use Rattle.aeth_schedule.specs.Switching.{changes, loaded_by, loaded_of}
use Rattle.aeth_stimuli.proofs.CycleEvents.{queue-once, slot-once}
use Rattle.aeth_stimuli.proofs.EventsOfSessions.{on-queue, on-slot, slots-ascend}
use Rattle.aeth_stimuli.proofs.LoadedEvents.{AreApartWrites, IsRoute, IsSlot, opening-of}
use Rattle.aeth_stimuli.proofs.LoadedEvents.{openings-apart}
use Rattle.aeth_stimuli.proofs.Pairs.{Differ, channel-passes, channels-differ, pairs-map}
use Rattle.aeth_stimuli.proofs.SessionEvents.{ByNone, BySwitch, Loaded, Opened, late, opens-by}
use Rattle.aeth_stimuli.proofs.SessionEvents.{row-there, shuts}
use Rattle.aeth_stimuli.proofs.StaySwitches.{loaded-stay, loaded_use}
use Rattle.aeth_stimuli.proofs.SwitchOrder.{ArePlacedApart}
use Rattle.aeth_stimuli.proofs.SwitchSessions.{IsOpenedAt, number-of, row-is}

module _ (inputs : Inputs) (accepted : AreAccepted inputs) where
  abbrev groups : GroupsData
  groups = groups_of inputs.app

  abbrev row_of : RowOf
  row_of = row_at (design_of inputs)

  abbrev spans : SpanData
  spans = (run_of inputs).spans

  -- The use case that is loaded, its channels, their rows and their writes.
  abbrev u : ℕ
  u = loaded_use inputs.switches

  abbrev channels : List Channel
  channels = channels_that (groups_of inputs.app)
      (has_at (groups_of inputs.app) (loaded_use inputs.switches))

  abbrev rows : List ChannelRow
  rows = rows_that (groups_of inputs.app) (row_at (design_of inputs))
      (group_at (groups_of inputs.app) (loaded_use inputs.switches))
      (has_at (groups_of inputs.app) (loaded_use inputs.switches))

  abbrev writes : List Write
  writes = flat_map opening_writes rows

  loaded-is : (list : List SwitchRow) → is_first_at_zero list ≡ Ok tt
      → changes (flat_map opening_writes (rows_that (groups_of inputs.app) (row_at (design_of inputs))
      (group_at (groups_of inputs.app) (loaded_use list))
      (has_at (groups_of inputs.app) (loaded_use list)))) ≡ loaded_by inputs list
  loaded-is [] some = absurd (cc some)
  loaded-is (first ∷ list) some = refl

  -- ---- each write is of a session

  -- The session of a channel that is loaded.
  loaded-session : (channel : Channel) → channel.conn.0 < (groups_of inputs.app).connections
      → has_at (groups_of inputs.app) (loaded_use inputs.switches) channel.conn.0 ≡ true
      → IsOpenedAt inputs None (group_at (groups_of inputs.app) (loaded_use inputs.switches)) channel
  loaded-session channel known has =
      let found = loaded-stay groups channel.conn.0 inputs.switches accepted.switches.first has in
      let one = number-of inputs channel known found.stay found.has in
      record {
        c = one.c;
        is = record {
          known = one.known;
          channel_is = one.channel_is;
          group_is = ap (λ (s : Stay). s.group) one.stay_is ∙ sym found.in_group;
        };
        opening_is = ap (λ (s : Stay). s.opening) one.stay_is ∙ found.opening_is;
      }

  -- A write of a row is one of its channel's session.
  write-of : (channel : Channel) → channel.conn.0 < (groups_of inputs.app).connections
      → has_at (groups_of inputs.app) (loaded_use inputs.switches) channel.conn.0 ≡ true
      → (write : Write) → Contains (opening_writes (row_at (design_of inputs)
      (group_at (groups_of inputs.app) (loaded_use inputs.switches)) channel)) write
      → IsWriteOf (routed_sessions_of inputs) 0 write
  write-of channel known has write listed =
      let group = group_at groups u in
      let row = row_of group channel in
      let session = loaded-session channel known has in
      let p = listed_at (run_of inputs) session.c in
      let flow = row-is inputs session.c group channel session.is in
      elim (opening-of row write listed) [
        | IsRoute same ↦
            let route : IsWriteOf (routed_sessions_of inputs) 0 (set_route row) = record {
              on = on-queue inputs accepted (set_at (routed_sessions_of inputs)) 0 session.c group
                  channel
                  session.is (ap (set_of groups row_of spans p.channel) session.opening_is);
              route_is = sym (ap (λ (r : ChannelRow). r.route) flow);
              remote_is = sym (ap (λ (r : ChannelRow). r.remote) flow);
              credits_are = sym (ap (λ (r : ChannelRow). r.credits) flow);
            } in
            subst (λ (w : Write). IsWriteOf (routed_sessions_of inputs) 0 w) same route
        | IsSlot x is_in same ↦
            let (i, at) = place_in row.slots.slots x is_in in
            let (place, small, entry) = on-slot inputs accepted u session.c x i channel has session.is at
            in
            let slot : IsWriteOf (routed_sessions_of inputs) 0 (SetSlot row.ni x row.queue) =
            record {
              on = record {
                session = session.c;
                at = entry;
                falls = ap (λ (o : Option Switch). slot_set_of groups row_of spans p.channel o
                    (slot_at (run_of inputs) p x)) session.opening_is;
                within = small;
              };
              queue_is = sym (ap (λ (r : ChannelRow). r.queue) flow);
            } in
            subst (λ (w : Write). IsWriteOf (routed_sessions_of inputs) 0 w) same slot
      ]

  only : (i : ℕ) (event : Event) → slice_get (changes writes) i ≡ Some event
      → IsEventOf (routed_sessions_of inputs) 0 event
  only i event at =
      let (write, same, listed) = map-Contains (λ (w : Write). Change w) writes event
      (has_place (changes writes) i event at) in
      let (row, is_row, own) = flat_map-Contains opening_writes rows write listed in
      let (channel, is, is_in) = map-Contains (row_of (group_at groups u)) channels row is_row in
      let (known, has) = channel-passes groups (has_at groups u) channel is_in in
      subst (λ (e : Event). IsEventOf (routed_sessions_of inputs) 0 e) same
      (write-of channel known has write
      (subst (λ (r : ChannelRow). Contains (opening_writes r) write) (sym is) own))

  -- ---- each session that is loaded has its writes

  -- A write of a row that is loaded occurs.
  occurs : (channel : Channel) → channel.conn.0 < (groups_of inputs.app).connections
      → has_at (groups_of inputs.app) (loaded_use inputs.switches) channel.conn.0 ≡ true
      → (write : Write) → Contains (opening_writes (row_at (design_of inputs)
      (group_at (groups_of inputs.app) (loaded_use inputs.switches)) channel)) write
      → Occurs (changes writes) (Change write)
  occurs channel known has write own =
      let row = row_of (group_at groups u) channel in
      place_in (changes writes) (Change write)
      (Contains-map (λ (w : Write). Change w) writes write
      (Contains-flat_map opening_writes rows row write
      (Contains-map (row_of (group_at groups u)) channels channel
      (channels_that-has groups (has_at groups u) channel known has)) own))

  module _ (c : ℕ) (within : c < length (session_list (run_of inputs))) where
    abbrev p : ChannelSession
    p = listed_at (run_of inputs) c

    sets : set_at (routed_sessions_of inputs) c ≡ 0
        → Occurs (changes writes) (Change (SetRoute (ni_of (routed_sessions_of inputs) c)
        ((routed_sessions_of inputs).routed_session c).queue
        (flow_at (routed_sessions_of inputs) c).route
        (flow_at (routed_sessions_of inputs) c).remote
        (server_at (routed_sessions_of inputs) c).buffer))
    sets falls = elim (opens-by inputs accepted c within) [
      | Loaded opening has same ↦
          let row = row-there inputs accepted c within (group_at groups u) same in
          let own = row_of (group_at groups u) p.channel in
          subst (λ (w : Write). Occurs (changes writes) (Change w)) (ap set_route row)
          (occurs p.channel (listed-there (run_of inputs) c within).known has (set_route own)
          (Contains-here (set_route own)
          (map (λ slot. SetSlot own.ni slot own.queue) own.slots.slots)))
      | Opened switch is ↦ let set = is.with.set in absurd (omega (arith, set, falls))
    ]

    slots-set : (x : ℕ) → has_slot (routed_sessions_of inputs) c x ≡ true
        → ((routed_sessions_of inputs).routed_session c).slot_set x ≡ 0
        → Occurs (changes writes) (Change (SetSlot (ni_of (routed_sessions_of inputs) c) x
        ((routed_sessions_of inputs).routed_session c).queue))
    slots-set x uses falls = elim (opens-by inputs accepted c within) [
      | Loaded opening has same ↦
          let row = row-there inputs accepted c within (group_at groups u) same in
          let own = row_of (group_at groups u) p.channel in
          let set = λ (slot : ℕ). SetSlot own.ni slot own.queue in
          let place = slot_at (run_of inputs) p x in
          let there = ap (λ (r : ChannelRow). slice_get r.slots.slots place) row
          ∙ slot_place (row_in (run_of inputs) p).slots.slots x uses in
          subst (λ (w : Write). Occurs (changes writes) (Change w))
          (ap (λ (r : ChannelRow). SetSlot r.ni x r.queue) row)
          (occurs p.channel (listed-there (run_of inputs) c within).known has (set x)
          (Contains-there (set_route own) (map set own.slots.slots) (set x)
          (Contains-map set own.slots.slots x (has_place own.slots.slots place x there))))
      | Opened switch is ↦ let set = is.with.slot_set x in absurd (omega (arith, set, falls))
    ]

    -- No session is cleared then.
    not-freed : freed_at (routed_sessions_of inputs) c ≡ 0 → ⊥
    not-freed falls = elim (shuts inputs accepted c within) [
      | ByNone closing ↦
          let freed = (late inputs accepted c within closing).freed in omega (arith, freed, falls)
      | BySwitch switch is ↦ let freed = is.with.freed in omega (arith, freed, falls)
    ]

    not-cleared : (x : ℕ) → ((routed_sessions_of inputs).routed_session c).slot_freed x ≡ 0 → ⊥
    not-cleared x falls = elim (shuts inputs accepted c within) [
      | ByNone closing ↦
          let freed = (late inputs accepted c within closing).slot_freed x in omega (arith, freed, falls)
      | BySwitch switch is ↦ let freed = is.with.slot_freed x in omega (arith, freed, falls)
    ]

  -- ---- all of them

  -- They are apart.
  apart : AllPairs ArePlacedApart (changes writes)
  apart =
      let f = row_of (group_at groups u) in
      let passes : (channel : Channel) → Contains channels channel
      → has_at groups u channel.conn.0 ≡ true =
      λ channel has. (channel-passes groups (has_at groups u) channel has).1 in
      let ascend : (row : ChannelRow) → Contains rows row → Ascends 0 inputs.chip.slots row.slots.slots =
      λ row has.
      let (channel, is, is_in) = map-Contains f channels row has in
      subst (λ (r : ChannelRow). Ascends 0 inputs.chip.slots r.slots.slots) is
      (slots-ascend inputs accepted u channel (passes channel is_in)) in
      let differ = pairs-map f Differ (λ row other. Meets row other → ⊥) channels
      (λ a b has_a has_b distinct meets.
      distinct (all_apart inputs accepted u a b (passes a has_a) (passes b has_b) meets))
      (channels-differ groups (has_at groups u)) in
      pairs-map (λ (w : Write). Change w) AreApartWrites ArePlacedApart writes
      (λ one other has_one has_other are. are)
      (openings-apart inputs.chip.slots rows ascend differ)

  pub loaded-are : AreEvents (routed_sessions_of inputs) 0 (loaded_of inputs)
  loaded-are =
      let now : AreEvents (routed_sessions_of inputs) 0 (changes writes) = record {
        only = only;
        halts = λ c known falls. absurd (omega (arith, falls));
        finishes = λ c known falls. absurd (omega (arith, falls));
        frees = λ c known falls. absurd (not-freed c known falls);
        sets = sets;
        slots_clear = λ c x known own falls. absurd (not-cleared c known x falls);
        slots_set = λ c x known own falls. slots-set c known x own falls;
        queue_once = queue-once (changes writes) apart;
        slot_once = slot-once (changes writes) apart;
      } in
      subst (λ (events : List Event). AreEvents (routed_sessions_of inputs) 0 events)
      (loaded-is inputs.switches accepted.switches.first) now
