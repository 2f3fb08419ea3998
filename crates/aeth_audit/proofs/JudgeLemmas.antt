-- What a row is found at is what its link is reserved for, and the rule that it breaks there.
use Rattle.std.proofs.Common.{◌≡◌, ◌∙◌, ◌+◌, ◌-◌, ◌*◌, ℕ, List, Contains, Option, Some, None}
use Rattle.std.proofs.Common.{slice_get, refl, sym, ap, subst, arith, ◌==◌, IsTrue, find}
use Rattle.std.proofs.Common.{option_map, unwrap_or}
use Rattle.std.proofs.lemmas.Option.{same_Some, slice_get-map}
use Rattle.std.specs.{List.range_with_len, List.slice_index_or, Option.option_map_or}
use Rattle.aeth_base.{specs.declared.ids.CoreId.CoreId, proofs.Members.Contains-flat_map}
use Rattle.aeth_base.{proofs.Members.Contains-slice_get, proofs.Members.slice_get-Contains}
use Rattle.aeth_base.{proofs.Ranges.Contains-range, proofs.SideLemmas.own-channel}
use Rattle.aeth_chip.specs.Paths.{offset}
use Rattle.aeth_app.specs.{App.AppData, App.position_of, Connections.receiver}
use Rattle.aeth_app.specs.{Limits.max_core_connections}
use Rattle.aeth_group.{specs.declared.grant.Grant.Grant, specs.declared.grant.SeatLine.SeatLine}
use Rattle.aeth_group.{specs.Members.groups_of, proofs.MemberLemmas.connections-groups_of}
use Rattle.aeth_plan.specs.Plan.{IsGrantOf}
use Rattle.aeth_server.specs.SlotCycles.{is_slot}
use Rattle.aeth_trace.specs.declared.switches.SwitchRow.{SwitchRow}
use Rattle.aeth_reconf.specs.Timeline.{sessions_at}
use Rattle.aeth_report.specs.{Channels.channels_with, Design.grant_at, Design.no_connection}
use Rattle.aeth_report.specs.{Design.remote_at, Sessions.MayInject, Flows.Run, Routes.route_along}
use Rattle.aeth_report.proofs.GrantLemmas.{grant_at-is}
use Rattle.aeth_tables.proofs.ListLaws.{all_has_by}
use Rattle.aeth_accepted.proofs.{OwnGrants.grant-own, TableFlows.routes-same}
use Rattle.aeth_audit.specs.{Audit.broken_by, Audit.path_at, Audit.rule_at, Judged.IsJudgeOf}
use Rattle.aeth_audit.specs.{Judged.design_for, Judged.reservation_of, Judged.run_on}
use Rattle.aeth_audit.specs.{Judging.IsFound, Limits.unreserved, Reservations.Reservation}
use Rattle.aeth_audit.specs.{Reserved.IsReserved, Tables.address_of, Tables.seat_number}
use Rattle.aeth_audit.specs.{declared.judge.Judge.Judge, declared.places.Place.Place}
use Rattle.aeth_audit.specs.{declared.row.LinkRow.LinkRow, declared.table.Address.Address}
use Rattle.aeth_audit.proofs.FaultLemmas.{reserved-first, reserved-none}

-- The seat of a core that may have no line.
seat-same : (seats : List SeatLine) (core : CoreId) (missing : SeatLine) → missing.seat ≡ 0
    → seat_number seats core
    ≡ (unwrap_or (find (λ line. line.core.0 == core.0) seats) missing).seat
seat-same seats core missing none =
    let cases : (o : Option SeatLine) → option_map_or (λ (line : SeatLine). line.seat) o 0
    ≡ (unwrap_or o missing).seat = elim [
      | None ↦ sym none
      | Some line ↦ refl
    ] in
    cases (find (λ (line : SeatLine). line.core.0 == core.0) seats)

module _ (app : AppData) (switches : List SwitchRow) (judge : Judge)
    (of : IsJudgeOf app switches judge) where
  -- The grant of the design is the plan's.
  pub own : (k : ℕ) (grant : Grant) → slice_get judge.plan.now.grants k ≡ Some grant
      → grant_at (design_for app judge) (record { conn = grant.unit.conn; side = grant.side })
      grant.unit.group.0 ≡ grant
  own k grant at = grant-own judge.chip.now app judge.plan.now of.design.plan_is.in_order grant
      (Contains-slice_get judge.plan.now.grants k grant at)

  -- So its path is that of its reservation.
  pub own-path : (k place : ℕ) (grant : Grant) → slice_get judge.plan.now.grants k ≡ Some grant
      → path_at (design_for app judge) (reservation_of grant place) ≡ grant.path
  own-path k place grant at = ap (λ (g : Grant). g.path) (own k grant at)

  -- The queue at which a grant's channel lands.
  queue-same : (grant : Grant)
      → (address_of judge.chip.now app judge.plan.now.seats grant).queue
      ≡ remote_at (design_for app judge) (record { conn = grant.unit.conn; side = grant.side })
  queue-same grant =
      let connection = slice_index_or app.connections grant.unit.conn.0 no_connection in
      let core = receiver connection grant.side in
      ap (λ n. max_core_connections * n + position_of app.connections core grant.unit.conn.0)
      (seat-same judge.plan.now.seats core (record { core = core; ni = record { 0 = 0 }; seat = 0 })
      refl)

  -- The address of a grant is its route and its remote queue.
  pub own-address : (k place : ℕ) (grant : Grant) (address : Address)
      → slice_get judge.plan.now.grants k ≡ Some grant
      → slice_get judge.table.now.addresses.items k ≡ Some address
      → (address.route ≡ route_along judge.chip.now.links
      (path_at (design_for app judge) (reservation_of grant place)))
      × (address.queue ≡ remote_at (design_for app judge)
      (record { conn = grant.unit.conn; side = grant.side }))
  own-address k place grant address at at_address =
      let make = address_of judge.chip.now app judge.plan.now.seats in
      let made : address ≡ make grant = same_Some address (make grant)
      (sym at_address ∙ ap (λ (xs : List Address). slice_get xs k) of.addresses
      ∙ slice_get-map make judge.plan.now.grants k ∙ ap (option_map make) at) in (
        ap (λ (a : Address). a.route) made
            ∙ sym (routes-same judge.chip.now of.design.chip_is grant.path)
            ∙ ap (route_along judge.chip.now.links) (sym (own-path k place grant at)),
        ap (λ (a : Address). a.queue) made ∙ queue-same grant,
      )

  -- What is found is reserved.
  pub found-reserved : (l t : ℕ) (place : Place) (found : IsFound judge l t place)
      → IsReserved (design_for app judge) judge.timeline.now l t
      (reservation_of found.grant place.place)
  found-reserved l t place found =
      let grant = found.grant in
      let links = judge.chip.now.links in
      let has = Contains-slice_get judge.plan.now.grants place.grant grant found.is_grant in
      let is_grant = all_has_by (IsGrantOf judge.chip.now app (groups_of app))
      judge.plan.now.grants grant of.design.plan_is.grants has in
      let conn = grant.unit.conn.0 in
      let connections = connections-groups_of app in
      let known = is_grant.conn in
      let listed = Contains-range 0 (groups_of app).connections conn (omega arith)
      (omega (arith, known, connections)) in
      let same = sym (own place.grant grant found.is_grant) in
      let reached = found.opened.reached in
      let injected = t - place.ahead in
      let time : injected + offset links grant.path place.place ≡ t =
      ap (λ n. injected + n) (sym found.ahead) ∙ omega arith in
      record {
        session = found.opened.has.session;
        injected = injected;
        is_channel = Contains-flat_map channels_with
            (range_with_len 0 (groups_of app).connections) conn _ listed
            (own-channel (record { conn = record { 0 = conn }; side = grant.side }));
        is_session = found.opened.has.has;
        group = found.opened.has.group_is;
        may = found.opened.has.may;
        slot = subst (λ (g : Grant). IsTrue (is_slot judge.chip.now.slots g.slots.slots injected))
            same found.slot;
        place = subst (λ (g : Grant). slice_get g.path place.place ≡ Some (record { 0 = l })) same
            found.at;
        time = subst (λ (g : Grant). injected + offset links g.path place.place ≡ t) same time;
      }

  -- What is reserved is at a place that can be found.
  pub reserved-found : (l t : ℕ) (at : Reservation)
      → IsReserved (design_for app judge) judge.timeline.now l t at
      → (place : Place) × IsFound judge l t place
  reserved-found l t at is =
      let grant = grant_at (design_for app judge) at.channel at.group in
      let for_it = grant_at-is (design_for app judge) at.channel at.group at.place
      (record { 0 = l }) is.place in
      let (k, at_k) = slice_get-Contains judge.plan.now.grants grant for_it.has in
      let ahead = offset judge.chip.now.links grant.path at.place in
      let time = is.time in
      let back : t - ahead ≡ is.injected = omega arith in (
        record { grant = k; place = at.place; ahead = ahead },
        record {
          grant = grant;
          is_grant = at_k;
          at = is.place;
          ahead = refl;
          opened = record {
            reached = omega arith;
            has = record {
              session = is.session;
              has = subst (λ c. Contains (sessions_at judge.timeline.now c) is.session)
                  (sym for_it.conn) is.is_session;
              group_is = is.group ∙ sym for_it.group;
              may = subst (MayInject is.session) (sym back) is.may;
            };
          };
          slot = subst (λ u. IsTrue (is_slot judge.chip.now.slots grant.slots.slots u)) (sym back)
              is.slot;
        },
      )

  -- ---- The rule that a row breaks

  abbrev run : Run
  run = run_on judge.chip.now app judge.plan.now switches

  -- Where nothing is found, the row breaks rule 1.
  pub rule-none : (row : LinkRow)
      → ((place : Place) → IsFound judge row.link.0 row.cycle place → ⊥)
      → Some unreserved ≡ broken_by (design_for app judge) judge.timeline.now judge.cycles
      judge.rows.now row
  rule-none row never =
      let none = reserved-none run of.sound judge.timeline.now of.sessions row.link.0 row.cycle
      (λ at is. let found = reserved-found row.link.0 row.cycle at is in never found.0 found.1) in
      ap (rule_at (design_for app judge) judge.cycles judge.rows.now row) (sym none)

  -- Where a place is found, the rule is that of this place.
  pub rule-found : (row : LinkRow) (place : Place)
      (found : IsFound judge row.link.0 row.cycle place)
      → rule_at (design_for app judge) judge.cycles judge.rows.now row
      (Some (reservation_of found.grant place.place))
      ≡ broken_by (design_for app judge) judge.timeline.now judge.cycles judge.rows.now row
  rule-found row place found =
      let first = reserved-first run of.sound judge.timeline.now of.sessions row.link.0 row.cycle
      (reservation_of found.grant place.place) (found-reserved row.link.0 row.cycle place found) in
      ap (rule_at (design_for app judge) judge.cycles judge.rows.now row) (sym first)
