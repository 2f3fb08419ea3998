-- What the links carry is a clean log: no row of it breaks a rule.
use Rattle.std.proofs.Common.{◌≡◌, ◌≤◌, ◌<◌, ◌∙◌, ℕ, zero, suc, ◌+◌, ◌-◌, ◌&&◌, Bool, true, false}
use Rattle.std.proofs.Common.{cond, not, List, [], ◌∷◌, Contains, Option, Some, None, slice_get}
use Rattle.std.proofs.Common.{refl, sym, ap, subst, inl, inr, arith, eq-eqb, le-leb, ◌==◌, IfSome}
use Rattle.std.proofs.Common.{nat_le, unwrap_or}
use Rattle.std.proofs.lemmas.Bool.{and_from, cases_lt, or_left, or_right}
use Rattle.std.specs.Option.{option_map_or}
use Rattle.aeth_base.specs.{Limits.max_path_delay, declared.ids.LinkId.LinkId}
use Rattle.aeth_base.proofs.Members.{Contains-here, Contains-there, slice_get-Contains}
use Rattle.aeth_base.proofs.Members.{sole-Contains}
use Rattle.aeth_chip.{specs.Paths.delay_of, specs.Paths.offset, proofs.OffsetLemmas.offset-more}
use Rattle.aeth_server.proofs.SlotCycleLemmas.{is_slot-member}
use Rattle.aeth_clocked.specs.declared.flit.Flit.{Flit}
use Rattle.aeth_report.specs.{Carries.IsCarried, Carries.IsSendable, Carries.carries}
use Rattle.aeth_report.specs.{Carries.flit_at, Carries.injects, Design.Design, Design.grant_at}
use Rattle.aeth_report.specs.{Flows.Flow, Flows.Run, Flows.sessions_in, Sound.IsSound}
use Rattle.aeth_report.specs.{declared.session.Close.Close, declared.session.Session.Session}
use Rattle.aeth_report.specs.{Sessions.session_of, SessionList.listed_at, SessionList.place_at}
use Rattle.aeth_report.specs.{SessionList.flow_by}
use Rattle.aeth_report.proofs.{CarriesLemmas.carries-sole, CarriesLemmas.carries-some}
use Rattle.aeth_report.proofs.{FlowPlaces.IsFlowOf, OneFlit.IsKnown, OneFlit.carried-known}
use Rattle.aeth_report.proofs.{OneFlit.one_flit, StaysAlone.at-Contains}
use Rattle.aeth_report.proofs.{SessionNumbers.listed-there, ChannelLemmas.known-channels_of}
use Rattle.aeth_audit.specs.{Audit.audit_of, Audit.broken_by, Audit.comes_from, Audit.fault_before}
use Rattle.aeth_audit.specs.{Audit.first_fault, Audit.goes_on, Audit.goes_to, Audit.has_after}
use Rattle.aeth_audit.specs.{Audit.has_before, Audit.is_joined, Audit.is_of_channel, Audit.row_on}
use Rattle.aeth_audit.specs.{Audit.rule_at, Limits.broken_off, Limits.foreign}
use Rattle.aeth_audit.specs.{Reservations.Reservation, Reserved.IsReserved}
use Rattle.aeth_audit.specs.{declared.row.LinkRow.LinkRow, declared.verdict.Audit.TheVariants.Clean}
use Rattle.aeth_audit.proofs.{FaultLemmas.reserved-first, OneReservation.AreSessionsOf}
use Rattle.aeth_links.specs.Carried.{carried_rows, row_of}
use Rattle.aeth_links.proofs.FlitLemmas.{flit-addressed, flit-goes_on}
use Rattle.aeth_links.proofs.FlowLemmas.{IsFitting}
use Rattle.aeth_links.proofs.RowLemmas.{below-is, row_on-is, rows_below}

-- A path that has a place has the one before it.
place-before : (path : List LinkId) (j : ℕ) (l : LinkId) → slice_get path (suc j) ≡ Some l
    → (m : LinkId) × (slice_get path j ≡ Some m)
place-before [] j l at = absurd (cc at)
place-before (m ∷ path) zero l at = (m, refl)
place-before (m ∷ path) (suc j) l at = place-before path j l at

-- Where no row breaks a rule, the audit is clean.
first-clean : (design : Design) (timeline : List (List Session)) (cycles : ℕ)
    (rows : List LinkRow) (number : ℕ) (later : List LinkRow)
    → ((row : LinkRow) → Contains later row → broken_by design timeline cycles rows row ≡ None)
    → first_fault design timeline cycles rows number later ≡ Clean
first-clean design timeline cycles rows number [] none = refl
first-clean design timeline cycles rows number (row ∷ later) none =
    ap (λ (broken : Option ℕ). fault_before number broken
    (first_fault design timeline cycles rows (number + 1) later))
    (none row (Contains-here row later))
    ∙ first-clean design timeline cycles rows (number + 1) later
    (λ other has. none other (Contains-there row later other has))

module _ (run : Run) (sound : IsSound run)
    (fits : (c : ℕ) (flow : Flow) → IsFlowOf run c flow → IsFitting run flow)
    (timeline : List (List Session)) (sessions : AreSessionsOf run timeline) (cycles : ℕ)
    (within : cycles ≤ run.cycles) where
  -- A flit that is carried is alone on its link.
  alone : (l t c i u : ℕ) (flow : Flow) → IsCarried run l t c i u flow
      → carries run l t ≡ flit_at flow i u ∷ []
  alone l t c i u flow carried = carries-sole run l t c i u flow carried
      (λ d j v other too. one_flit run sound l t d j v c i u other flow too carried)

  module _ (l t c : ℕ) (flow : Flow) where
    -- What holds of a flow that has a flit there.
    fitting : (i u : ℕ) → IsCarried run l t c i u flow → IsFitting run flow
    fitting i u carried = fits c flow (carried-known run sound l t c i u flow carried).of

    -- The row of its flit is the one of the link in the cycle.
    carried-row : (i u : ℕ) → IsCarried run l t c i u flow → t < cycles
        → row_on (rows_below run cycles) t l ≡ Some (row_of t l (flit_at flow i u))
    carried-row i u carried early = row_on-is run cycles within t l (flit_at flow i u) early
        ((fitting i u carried).known i (record { 0 = l }) carried.place)
        (alone l t c i u flow carried)

  module _ (l t c u : ℕ) (flow : Flow) (early : t < cycles) where
    -- It comes from the link before.
    carried-before : (i : ℕ) → IsCarried run l t c i u flow
        → has_before run.design.chip.links (rows_below run cycles) flow.path i
        (row_of t l (flit_at flow i u)) ≡ true
    carried-before zero carried = or_left (0 == 0)
        (option_map_or (comes_from run.design.chip.links (rows_below run cycles)
        (row_of t l (flit_at flow 0 u))) (slice_get flow.path (0 - 1)) false)
        (eq-eqb 0 0 refl)
    carried-before (suc j) carried =
        let links = run.design.chip.links in
        let rows = rows_below run cycles in
        let row = row_of t l (flit_at flow (suc j) u) in
        let back = place-before flow.path j (record { 0 = l }) carried.place in
        let m = back.0 in
        let delay = offset-more links flow.path j m back.1 in
        let next : suc j ≡ j + 1 = omega arith in
        let same : offset links flow.path (suc j) ≡ offset links flow.path (j + 1) =
        ap (offset links flow.path) next in
        let time = carried.time in
        let there : IsCarried run m.0 (t - delay_of links m) c j u flow = record {
          flow_is = carried.flow_is;
          place = back.1;
          time = omega arith;
          injected = carried.injected;
        } in
        let found = carried-row m.0 (t - delay_of links m) c flow j u there (omega arith) in
        let one : suc j - 1 ≡ j = omega arith in
        or_right (suc j == 0) _
        (ap (λ (n : ℕ). option_map_or (comes_from links rows row) (slice_get flow.path n) false) one
        ∙ ap (λ (o : Option LinkId). option_map_or (comes_from links rows row) o false) back.1
        ∙ ap (λ (o : Option LinkRow). option_map_or (λ before. goes_on before.flit row.flit) o false)
        found
        ∙ ap (λ (n : ℕ). goes_on (flit_at flow j u) (flit_at flow n u)) next
        ∙ flit-goes_on flow (fitting l t c flow (suc j) u carried).sendable j u)

    module _ (i : ℕ) (carried : IsCarried run l t c i u flow) where
      abbrev row : LinkRow
      row = row_of t l (flit_at flow i u)

      -- It goes on to the link after.
      goes-on : (m : LinkId) → slice_get flow.path (i + 1) ≡ Some m
          → goes_to run.design.chip.links (rows_below run cycles) cycles row m ≡ true
      goes-on m at =
          let links = run.design.chip.links in
          let after = t + delay_of links (record { 0 = l }) in
          let delay = offset-more links flow.path i (record { 0 = l }) carried.place in
          let time = carried.time in
          elim (cases_lt after cycles) [
            | inl soon ↦
                let there : IsCarried run m.0 after c (i + 1) u flow = record {
                  flow_is = carried.flow_is;
                  place = at;
                  time = omega arith;
                  injected = carried.injected;
                } in
                or_right (nat_le cycles after) _
                (ap (λ (o : Option LinkRow). option_map_or (λ next. goes_on row.flit next.flit) o false)
                (carried-row m.0 after c flow (i + 1) u there soon)
                ∙ flit-goes_on flow (fitting l t c flow i u carried).sendable i u)
            | inr past ↦ or_left (nat_le cycles after) _ (le-leb cycles after past)
          ]

      carried-after : has_after run.design.chip.links (rows_below run cycles) cycles flow.path i row
          ≡ true
      carried-after =
          let goes = goes_to run.design.chip.links (rows_below run cycles) cycles row in
          let cases : (o : Option LinkId) → slice_get flow.path (i + 1) ≡ o
          → option_map_or goes o true ≡ true = elim [
            | None ↦ λ none. refl
            | Some m ↦ λ at. goes-on m at
          ] in
          cases (slice_get flow.path (i + 1)) refl

      known : IsKnown run sound l t c i u flow
      known = carried-known run sound l t c i u flow carried

      -- The link is reserved for it.
      abbrev at : Reservation
      at = record {
        channel = (listed_at run c).channel;
        group = (listed_at run c).stay.group;
        place = i;
      }

      -- The session of its flow.
      abbrev session : Session
      session = session_of run.spans (listed_at run c).stay

      stops : IfSome session.close (λ close. u < close.stop)
      stops =
          let past : Close = record {
            until = run.cycles;
            stop = run.cycles;
            fin = run.cycles + max_path_delay;
          } in
          let cases : (o : Option Close) → u < (unwrap_or o past).stop
          → IfSome o (λ close. u < close.stop) = elim [
            | None ↦ λ below. tt
            | Some close ↦ λ below. below
          ] in
          cases session.close known.reserved.injected.stops

      carried-reserved : IsReserved run.design timeline l t at
      carried-reserved =
          let channel = (listed_at run c).channel in
          let inside = (listed-there run c known.of.known).known in
          record {
            session = session;
            injected = u;
            is_channel = known-channels_of run.design.groups.connections channel inside;
            is_session = subst (λ (all : List Session). Contains all session)
                (sym (sessions channel.conn.0 inside))
                (at-Contains (sessions_in run channel.conn.0) (place_at run c) session
                known.reserved.session_at);
            group = refl;
            may = record { goes = known.reserved.injected.goes; unstopped = stops };
            slot = is_slot-member run.design.chip.slots
                (grant_at run.design channel session.group.0).slots.slots u
                known.reserved.injected.slot;
            place = known.reserved.place;
            time = known.reserved.time;
          }

      -- It is one of the channel.
      carried-of_channel : is_of_channel run.design at (flit_at flow i u) ≡ true
      carried-of_channel =
          let own = flow_by run (listed_at run c) in
          let is = known.of.is in
          let sendable = subst IsSendable (sym is) (fitting l t c flow i u carried).sendable in
          let injected = subst (λ (f : Flow). injects f u ≡ true) (sym is) carried.injected in
          subst (λ (f : Flow). is_of_channel run.design at (flit_at f i u) ≡ true) is
          (flit-addressed own sendable i u injected)

      -- So its row breaks no rule.
      carried-clean : broken_by run.design timeline cycles (rows_below run cycles) row ≡ None
      carried-clean =
          let rows = rows_below run cycles in
          let links = run.design.chip.links in
          let joined : is_joined run.design cycles rows at row ≡ true =
          subst (λ (f : Flow). (has_before links rows f.path i row
          && has_after links rows cycles f.path i row) ≡ true) (sym known.of.is)
          (and_from (has_before links rows flow.path i row)
          (has_after links rows cycles flow.path i row) (carried-before i carried) carried-after) in
          ap (rule_at run.design cycles rows row)
          (reserved-first run sound timeline sessions l t at carried-reserved)
          ∙ ap (λ (b : Bool). cond (not b) (Some foreign)
          (cond (not (is_joined run.design cycles rows at row)) (Some broken_off) None))
          carried-of_channel
          ∙ ap (λ (b : Bool). cond (not b) (Some broken_off) None) joined

  -- Nor does any other.
  rows-clean : (row : LinkRow) → Contains (rows_below run cycles) row
      → broken_by run.design timeline cycles (rows_below run cycles) row ≡ None
  rows-clean row has =
      let below = below-is run cycles within row has in
      let t = row.cycle in
      let l = row.link.0 in
      let on = slice_get-Contains (carries run l t) row.flit below.0.flit in
      let one = carries-some run l t on.0 row.flit on.1 in
      let flit = flit_at one.flow one.place one.cycle in
      let same : row.flit ≡ flit = sym (sole-Contains flit row.flit
      (subst (λ (flits : List Flit). Contains flits row.flit)
      (alone l t one.number one.place one.cycle one.flow one.carried) below.0.flit)) in
      subst (λ (f : Flit). broken_by run.design timeline cycles (rows_below run cycles)
      (row_of t l f) ≡ None) (sym same)
      (carried-clean l t one.number one.cycle one.flow below.1 one.place one.carried)

  -- The whole log is clean.
  pub log-clean : audit_of run.design timeline (carried_rows run) cycles ≡ Clean
  log-clean = first-clean run.design timeline cycles (rows_below run cycles) 1
      (rows_below run cycles) rows-clean
