-- Two sessions that are in the tables in one cycle enter no wire in one slot.
use Rattle.std.proofs.Common.{◌≡◌, ◌≤◌, ◌<◌, ◌+◌, ◌%◌, ◌∙◌, ℕ, suc, true, List, [], ◌∷◌, Option}
use Rattle.std.proofs.Common.{Some, None, length, slice_get, refl, sym, ap, subst, inl, inr, arith}
use Rattle.std.proofs.Common.{eqb, IfSome, max, option_map, unwrap_or, eqb-true}
use Rattle.std.proofs.lemmas.{Bool.cases_Bool, Bool.cases_lt, Option.slice_get_past}
use Rattle.std.specs.List.{list_any, position_or_len}
use Rattle.aeth_base.{specs.Limits.max_path_delay, specs.declared.ids.Channel.Channel}
use Rattle.aeth_base.{specs.declared.ids.LinkId.LinkId, proofs.Division.mod-before}
use Rattle.aeth_chip.specs.{Chip.IsChip, Paths.delay_in, Paths.delay_of, Paths.offset}
use Rattle.aeth_chip.specs.{declared.node.Link.Link}
use Rattle.aeth_chip.proofs.WireLemmas.{wire_at-apart}
use Rattle.aeth_report.specs.{declared.session.Close.Close, Design.grant_at, Flows.Run}
use Rattle.aeth_report.specs.{Sessions.Switch, Sessions.close_by, Sessions.go_of, Sound.IsSound}
use Rattle.aeth_report.specs.{SessionList.ChannelSession, SessionList.session_list}
use Rattle.aeth_report.specs.{SessionList.listed_at, SessionList.place_at}
use Rattle.aeth_report.proofs.GrantLemmas.{EntersIn, entered_once}
use Rattle.aeth_report.proofs.SessionMeetings.{IsInTables as IsStayInTables, finish_by}
use Rattle.aeth_report.proofs.SessionMeetings.{stays_alone_in_tables, stays_meet_in_tables}
use Rattle.aeth_report.proofs.StaysAlone.{at-Contains}
use Rattle.aeth_report.proofs.SessionNumbers.{listed-there, one_number}
use Rattle.aeth_tables.proofs.ListLaws.{has_place}
use Rattle.aeth_invariant.specs.RoutedSessions.{IsPlace, IsInTables, has_slot}
use Rattle.aeth_routed_sessions.specs.RoutedSessions.{entered_by, routed_sessions_over, flow_in}
use Rattle.aeth_routed_sessions.specs.RoutedSessions.{stays_in}
use Rattle.aeth_routed_sessions.specs.Paths.{wires_along}
use Rattle.aeth_routed_sessions.proofs.PathWires.{IsWireOf, wires-place}

-- A slot that is among some stands at its place.
pub slot_place : (xs : List ℕ) (x : ℕ) → list_any (λ own. eqb x own) xs ≡ true
    → slice_get xs (position_or_len (λ own. eqb x own) xs) ≡ Some x
slot_place [] x is = absurd (cc is)
slot_place (y ∷ ys) x is = elim (cases_Bool (eqb x y)) [
  | inl here ↦
      let same = eqb-true x y here in
      let first : position_or_len (λ own. eqb x own) (y ∷ ys) ≡ 0 = rw here refl in
      ap (slice_get (y ∷ ys)) first ∙ ap (λ (n : ℕ). Some n) (sym same)
  | inr other ↦
      let later : list_any (λ own. eqb x own) ys ≡ true = rw other at is in
      let step : position_or_len (λ own. eqb x own) (y ∷ ys)
      ≡ suc (position_or_len (λ own. eqb x own) ys) = rw other (omega arith) in
      ap (slice_get (y ∷ ys)) step ∙ slot_place ys x later
]

-- A link that delays is there.
pub link_known : (links : List Link) (l : LinkId) (p : ℕ) → p < delay_of links l → l.0 < length links
link_known links l p short = elim (cases_lt l.0 (length links)) [
  | inl less ↦ less
  | inr past ↦
      let none : delay_of links l ≡ 0 = ap delay_in (slice_get_past links l.0 past) in
      absurd (omega (arith, short, none))
]

module _ (run : Run) where
  -- How a stay closes with the run.
  abbrev pub past : ChannelSession → Close
  past session = record {
    until = run.cycles;
    stop = max run.cycles (go_of run.spans session.stay.opening);
    fin = max run.cycles (go_of run.spans session.stay.opening) + max_path_delay;
  }

  -- A session that is in the tables is so by the finishes of the switches that open and close it.
  pub covered : (session : ChannelSession) (t : ℕ) → entered_by run session.stay.opening ≤ t
      → t < (flow_in run session).server.finish
      → IsStayInTables run.design.groups run.spans session.stay t
  covered session t since unfinished =
      let openings : (o : Option Switch) → entered_by run o ≤ t
      → IfSome o (λ switch. finish_by run.design.groups run.spans switch ≤ t) = elim [
        | None ↦ λ goes. tt
        | Some switch ↦ λ goes. goes
      ] in
      let closings : (o : Option Switch)
      → t < (unwrap_or (option_map (close_by run.spans) o) (past session)).fin
      → IfSome o (λ switch. t < finish_by run.design.groups run.spans switch) = elim [
        | None ↦ λ below. tt
        | Some switch ↦ λ below. below
      ] in
      record {
        opened_by = openings session.stay.opening since;
        closed_by = closings session.stay.closing unfinished;
      }

  module _ (is_chip : IsChip run.design.chip) (sound : IsSound run) where
    -- A session that is in the tables is on a wire in a slot.
    pub record IsAt (session : ChannelSession) (i l x t : ℕ) : Type 0 where
      pub covers : IsStayInTables run.design.groups run.spans session.stay t
      pub place : slice_get (wires_along run.design.chip.links (flow_in run session).path) i
          ≡ Some l
      pub slot : list_any (λ own. eqb x own) (flow_in run session).server.shape.slots ≡ true

    -- It enters the link of the wire in its slot.
    enters : (session : ChannelSession) (i l x t s : ℕ) → (at : IsAt session i l x t)
        → (of : IsWireOf run.design.chip.links (flow_in run session).path i l)
        → (x + offset run.design.chip.links (flow_in run session).path of.place)
        % run.design.chip.slots ≡ s
        → EntersIn run.design sound.granted session.channel session.stay.group of.link.0 of.place s
    enters session i l x t s at of slot =
        let slots = (flow_in run session).server.shape.slots in
        record {
          start = x;
          place = of.at;
          starts = has_place slots (position_or_len (λ own. eqb x own) slots) x
              (slot_place slots x at.slot);
          slot = slot;
        }

    pub wires_apart : (c d i j l x y t : ℕ) → c < length (session_list run)
        → d < length (session_list run) → IsAt (listed_at run c) i l x t
        → IsAt (listed_at run d) j l y t
        → (x + i) % run.design.chip.slots ≡ (y + j) % run.design.chip.slots
        → (c ≡ d) × (i ≡ j)
    wires_apart c d i j l x y t known_c known_d one two same =
        let p = listed_at run c in
        let q = listed_at run d in
        let links = run.design.chip.links in
        let size = run.design.chip.slots in
        let path_p = (flow_in run p).path in
        let path_q = (flow_in run q).path in
        let of_p = wires-place links path_p i l one.place in
        let of_q = wires-place links path_q j l two.place in
        let wire = wire_at-apart links of_p.link of_q.link of_p.inner of_q.inner
        (link_known links of_p.link of_p.inner of_p.short)
        (link_known links of_q.link of_q.inner of_q.short) of_p.short of_q.short
        (of_p.is ∙ sym of_q.is) in
        let at_s = (listed-there run c known_c).stay_at in
        let at_e = (listed-there run d known_d).stay_at in
        let meet = stays_meet_in_tables run.design.groups run.spans run.switches p.channel.conn.0
        q.channel.conn.0 t sound.apart p.stay q.stay
        (at-Contains (stays_in run p.channel.conn.0) (place_at run c) p.stay at_s)
        (at-Contains (stays_in run q.channel.conn.0) (place_at run d) q.stay at_e)
        one.covers two.covers in
        let index_p = of_p.index in
        let index_q = of_q.index in
        let inner = wire.1 in
        let off_p = offset links path_p of_p.place in
        let off_q = offset links path_q of_q.place in
        let ahead_p : x + i ≡ (x + off_p) + of_p.inner = omega (arith, index_p) in
        let ahead_q : y + j ≡ (y + off_q) + of_p.inner = omega (arith, index_q, inner) in
        let slot : (y + off_q) % size ≡ (x + off_p) % size =
        mod-before (y + off_q) (x + off_p) of_p.inner size is_chip.some_slots
        (rw (ahead_p, ahead_q) at (sym same)) in
        let enters_p = enters p i l x t ((x + off_p) % size) one of_p refl in
        let enters_q = enters q j l y t ((x + off_p) % size) two of_q slot in
        let moved : EntersIn run.design sound.granted q.channel p.stay.group of_p.link.0 of_q.place
        ((x + off_p) % size) =
        subst (λ (g : ℕ). EntersIn run.design sound.granted q.channel g of_p.link.0 of_q.place
        ((x + off_p) % size)) (sym meet.group)
        (subst (λ (k : ℕ). EntersIn run.design sound.granted q.channel q.stay.group k of_q.place
        ((x + off_p) % size)) (sym wire.0) enters_q) in
        let once = entered_once run.design sound.granted p.channel q.channel p.stay.group
        of_p.link.0 of_p.place of_q.place ((x + off_p) % size) meet.together enters_p moved in
        let there : slice_get (stays_in run p.channel.conn.0) (place_at run d) ≡ Some q.stay =
        subst (λ (ch : Channel). slice_get (stays_in run ch.conn.0) (place_at run d) ≡ Some q.stay)
        (sym once.0) at_e in
        let places = stays_alone_in_tables run.design.groups run.spans run.switches
        p.channel.conn.0 t sound.apart (place_at run c) (place_at run d) p.stay q.stay
        at_s there one.covers two.covers in
        let offsets : off_p ≡ off_q = λ k. offset links
        (grant_at run.design (once.0 k) (meet.group k)).path (once.1 k) in (
          one_number run c d known_c known_d once.0 places,
          omega (arith, index_p, index_q, inner, offsets),
        )

-- So it is of the routed sessions.
pub shares_none : (run : Run) → IsChip run.design.chip → IsSound run → (c d : ℕ)
    → c < length (session_list run) → d < length (session_list run) → (i j l x y t : ℕ)
    → IsInTables (routed_sessions_over run) c t → IsInTables (routed_sessions_over run) d t
    → IsPlace (routed_sessions_over run) c i l → IsPlace (routed_sessions_over run) d j l
    → has_slot (routed_sessions_over run) c x ≡ true
    → has_slot (routed_sessions_over run) d y ≡ true
    → (x + i) % run.design.chip.slots ≡ (y + j) % run.design.chip.slots → (c ≡ d) × (i ≡ j)
shares_none run is_chip sound c d known_c known_d i j l x y t going_c going_d place_c place_d slot_c
    slot_d same =
    wires_apart run is_chip sound c d i j l x y t known_c known_d (record {
      covers = covered run (listed_at run c) t going_c.since going_c.unfinished;
      place = place_c;
      slot = slot_c;
    }) (record {
      covers = covered run (listed_at run d) t going_d.since going_d.unfinished;
      place = place_d;
      slot = slot_d;
    }) same
