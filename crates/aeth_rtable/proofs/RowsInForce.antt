-- Where a session that is in the tables goes on to a wire, the rows in force send the wire on from
-- where it goes.
use Rattle.std.proofs.Common.{◌≡◌, ◌<◌, ◌+◌, ◌%◌, ◌∙◌, ℕ, suc, eqb, List, All, Contains, Some}
use Rattle.std.proofs.Common.{length, slice_get, refl, sym, ap, option_map, eq-eqb}
use Rattle.std.proofs.lemmas.{Bool.and_from, List.Elements.All-from_recursion}
use Rattle.std.proofs.lemmas.{Option.slice_get_within}
use Rattle.std.specs.List.{position_or_len}
use Rattle.aeth_base.specs.declared.ids.{LinkId.LinkId, RouterId.RouterId}
use Rattle.aeth_chip.specs.{Nodes.sends_on, declared.node.Link.Link}
use Rattle.aeth_chip.specs.{declared.node.Node.TheVariants.Router, Wires.HaveDelays}
use Rattle.aeth_chip.proofs.WireLemmas.{have_delays}
use Rattle.aeth_group.specs.Members.{group_at, groups_of, has_at}
use Rattle.aeth_group.specs.declared.grant.Grant.{Grant}
use Rattle.aeth_report.{specs.Design.grant_at, specs.Flows.Run, specs.Routes.port_of}
use Rattle.aeth_report.{proofs.GrantLemmas.grant_at-is, proofs.StaysAlone.at-Contains}
use Rattle.aeth_report.{specs.SessionList.ChannelSession, specs.SessionList.listed_at}
use Rattle.aeth_report.{specs.SessionList.place_at, proofs.SessionNumbers.listed-there}
use Rattle.aeth_tables.proofs.ListLaws.{has_place}
use Rattle.aeth_invariant.specs.RoutedSessions.{AtRouter, IsInTables}
use Rattle.aeth_invariant.specs.Tables.{IsPassing}
use Rattle.aeth_router.specs.{Router.last_wire, Rows.link_in}
use Rattle.aeth_router.specs.{declared.router_row.RouterRow.RouterRow}
use Rattle.aeth_accepted.specs.Inputs.{AreAccepted, Inputs, design_of, run_of}
use Rattle.aeth_accepted.proofs.SoundRuns.{grant_is}
use Rattle.aeth_routed_sessions.specs.RoutedSessions.{routed_sessions_of, stays_in}
use Rattle.aeth_routed_sessions.specs.Wiring.{start_of}
use Rattle.aeth_routed_sessions.proofs.{ApartWires.covered, ApartWires.slot_place}
use Rattle.aeth_routed_sessions.proofs.{PathWires.wires-place, WiredLemmas.port_at}
use Rattle.aeth_routed_sessions.proofs.{WireEnds.starts_at-node}
use Rattle.aeth_rtable.specs.{InForce.rows_in_force, InForce.use_in_force, RouterTables.AreTables}
use Rattle.aeth_rtable.specs.{Sending.from_at, Sending.from_rows}
use Rattle.aeth_rtable.proofs.{InForce.stay-used, PathEntries.enters-at, SendingLaws.row-link}
use Rattle.aeth_rtable.proofs.{TableLaws.design_tables}

module _ (inputs : Inputs) (accepted : AreAccepted inputs) (t : ℕ) where
  abbrev run : Run
  run = run_of inputs

  abbrev links : List Link
  links = inputs.chip.links

  -- The use case in force, and that its rows are the tables of all routers.
  abbrev pub used : ℕ
  used = use_in_force (run_of inputs).spans t inputs.switches

  pub tables : AreTables inputs.chip (groups_of inputs.app) inputs.plan used (rows_in_force inputs t)
  tables = design_tables inputs.chip inputs.app inputs.plan accepted.design used

  -- A grant of the plan has links of its chip.
  pub links_known : (grant : Grant) → Contains inputs.plan.grants grant
      → All (λ (link : LinkId). link.0 < length inputs.chip.links) grant.path
  links_known grant has =
      All-from_recursion (λ (link : LinkId). link.0 < length inputs.chip.links) grant.path
      (grant_is inputs accepted grant has).links

  -- From which wire a wire is sent on that starts at a router.
  pub from-starts : (l r : ℕ) → start_of inputs.chip.links l ≡ AtRouter r
      → from_rows inputs.chip (rows_in_force inputs t) t l
      ≡ option_map (λ (link : LinkId). last_wire inputs.chip.links link.0)
      (link_in (rows_in_force inputs t) (record { 0 = r })
      (port_of inputs.chip.links (record { 0 = l })) (t % inputs.chip.slots))
  from-starts l r starts = ap (from_at inputs.chip (rows_in_force inputs t) t l) starts

  -- Such a wire is the first one of a link, which stands at its port.
  pub record IsSent (l r : ℕ) : Type 0 where
    pub below : l < length inputs.chip.links
    pub port : slice_get (sends_on (Router (record { 0 = r })) inputs.chip.links)
        (port_of inputs.chip.links (record { 0 = l })) ≡ Some l

  pub sent : (l r : ℕ) → start_of inputs.chip.links l ≡ AtRouter r → IsSent l r
  sent l r starts =
      let router : RouterId = record { 0 = r } in
      let delays : HaveDelays inputs.chip.links = have_delays inputs.chip accepted.design.chip_is in
      let found = starts_at-node links delays l (Router router) starts in
      record {
        below = slice_get_within links l found.link found.at;
        port = port_at links l found.link router found.at found.from;
      }

  -- Where a session that is in the tables goes on to a wire, a grant of the use case enters the row of
  -- the wire.
  module _ (c i m l r : ℕ) (starts : start_of inputs.chip.links l ≡ AtRouter r)
      (on : IsInTables (routed_sessions_of inputs) c t)
      (goes : IsPassing (routed_sessions_of inputs) t c i m l) where
    abbrev own : ChannelSession
    own = listed_at (run_of inputs) c

    abbrev granted : Grant
    granted = grant_at (design_of inputs) own.channel own.stay.group

    pub row-there : from_rows inputs.chip (rows_in_force inputs t) t l ≡ Some m
    row-there =
        let conn = own.channel.conn.0 in
        let is = listed-there run c goes.known in
        let of = stay-used (groups_of inputs.app) run.spans inputs.switches conn t
        accepted.switches.apart own.stay
        (at-Contains (stays_in run conn) (place_at run c) own.stay is.stay_at)
        (covered run own t on.since on.unfinished) in
        let router : RouterId = record { 0 = r } in
        let port = port_of links (record { 0 = l }) in
        let sends = sent l r starts in
        let onto = wires-place links granted.path (suc i) l goes.next in
        let some = grant_at-is (design_of inputs) own.channel own.stay.group onto.place onto.link onto.at
        in
        let known = links_known granted some.has in
        let size = (grant_is inputs accepted granted some.has).size in
        let enters = enters-at inputs.chip accepted.design.chip_is granted.path known i m l sends.below
        goes.here goes.next in
        let slots = granted.slots.slots in
        let row : RouterRow = record {
          router = router;
          port = port;
          slot = t % inputs.chip.slots;
          from = enters.from;
        } in
        let in_use = and_from (has_at (groups_of inputs.app) used granted.unit.conn.0)
        (eqb (group_at (groups_of inputs.app) used) granted.unit.group.0)
        (ap (has_at (groups_of inputs.app) used) some.conn ∙ of.has)
        (eq-eqb (group_at (groups_of inputs.app) used) granted.unit.group.0
        (of.group ∙ sym some.group)) in
        let has = tables.all row (record {
          grant = granted;
          granted = some.has;
          in_use = in_use;
          enters = record {
            place = enters.place;
            link = record { 0 = l };
            start = goes.slot;
            before = enters.before;
            behind = enters.behind;
            port = sends.port;
            starts = has_place slots (position_or_len (λ own. eqb goes.slot own) slots) goes.slot
                (slot_place slots goes.slot goes.uses);
            slot = ap (λ (n : ℕ). (goes.slot + n) % granted.slots.size) enters.index
                ∙ ap (λ (n : ℕ). (goes.slot + suc i) % n) size ∙ goes.time;
          };
        }) in
        from-starts l r starts
        ∙ ap (option_map (λ (link : LinkId). last_wire inputs.chip.links link.0))
        (row-link router port (t % inputs.chip.slots) (rows_in_force inputs t) tables.ascends row has
        refl refl refl)
        ∙ ap (λ (n : ℕ). Some n) enters.last
