-- A channel that a switch keeps goes through it in one session.
use Rattle.std.proofs.Common.{◌≡◌, ◌∙◌, ◌≤◌, ◌+◌, ◌⊎◌, ℕ, zero, suc, List, [], ◌∷◌, Contains}
use Rattle.std.proofs.Common.{Option, Some, None, arith, inl, inr, refl, slice_get, subst, ap}
use Rattle.std.proofs.Common.{IfSome, IsTrue, not, option_map}
use Rattle.std.proofs.lemmas.Bool.{and_from, cases_Bool, not_from_false}
use Rattle.std.proofs.lemmas.Option.{none-some, same_Some}
use Rattle.aeth_accepted.specs.Inputs.{AreAccepted, Inputs, design_of, row_at, run_of}
use Rattle.aeth_base.{specs.declared.ids.Channel.Channel, proofs.Members.Contains-map}
use Rattle.aeth_group.specs.Members.{GroupsData, group_at, groups_of, has_at, is_kept}
use Rattle.aeth_ni.specs.declared.write.Write.{Write}
use Rattle.aeth_reconf.specs.Rows.{Touches, switch_program}
use Rattle.aeth_report.specs.Sessions.{Stay, Switch, closing_in, go_by, go_of, opens, session_of}
use Rattle.aeth_report.specs.Sessions.{close_by, stays_behind, stays_of}
use Rattle.aeth_report.specs.Sound.{IsSound}
use Rattle.aeth_report.specs.declared.session.Close.{Close}
use Rattle.aeth_report.proofs.SessionMeetings.{AreInTime, in_time}
use Rattle.aeth_report.proofs.Stays.{kept-is, opened, stay_with-here, stay_with-there, switch_of}
use Rattle.aeth_trace.specs.{Spans.SpanData, Switches.go_after}
use Rattle.aeth_trace.specs.{declared.switches.SwitchRow.SwitchRow}
use Rattle.aeth_cli.specs.Kept.{GoesThrough}

module _ (groups : GroupsData) (spans : SpanData) (c : ℕ) where
  -- What closes a stay, if anything does, comes once the channels go that a row opens.
  abbrev IsLate : ℕ → SwitchRow → Option Switch → Type 0
  IsLate u row closing = IfSome closing (λ switch. go_after spans u row ≤ switch.row.cycle)

  -- A stay goes through the switch of a row that leaves use case u.
  record Through (stays : List Stay) (u : ℕ) (row : SwitchRow) : Type 0 where
    stay : Stay
    has : Contains stays stay
    group : stay.group ≡ group_at groups u
    before : go_of spans stay.opening ≤ row.cycle
    behind : IsLate u row stay.closing

  -- The stay that comes with use case v goes through it.
  record OpenThrough (v : ℕ) (rows : List SwitchRow) (u : ℕ) (row : SwitchRow) : Type 0 where
    has : IsTrue (has_at groups v c)
    group : group_at groups v ≡ group_at groups u
    behind : IsLate u row (closing_in groups c v rows)

  -- Behind use case v a row at a place of some leaves use case u.
  abbrev Leaves : ℕ → List SwitchRow → ℕ → ℕ → SwitchRow → Type 0
  Leaves v [] k u row = ⊥
  Leaves v (first ∷ rows) zero u row = (v ≡ u) × (first ≡ row)
  Leaves v (first ∷ rows) (suc k) u row = Leaves first.to.0 rows k u row

  -- It comes no earlier than they may.
  leaves-late : (v low : ℕ) (rows : List SwitchRow) → AreInTime spans v low rows
      → (k u : ℕ) (row : SwitchRow) → Leaves v rows k u row → low ≤ row.cycle
  leaves-late v low [] times k u row at = absurd at
  leaves-late v low (first ∷ rows) times zero u row at =
      subst (λ (one : SwitchRow). low ≤ one.cycle) at.1 times.0
  leaves-late v low (first ∷ rows) times (suc k) u row at =
      let here = times.0 in
      let later = leaves-late first.to.0 (go_by spans (switch_of v first)) rows times.1 k u row at in
      omega arith

  -- What closes the stay that comes with use case v comes no earlier either.
  closes-from : (v low : ℕ) (rows : List SwitchRow) → AreInTime spans v low rows
      → IfSome (closing_in groups c v rows) (λ switch. low ≤ switch.row.cycle)
  closes-from v low [] times = tt
  closes-from v low (first ∷ rows) times =
      let w = first.to.0 in
      let here = times.0 in
      elim (cases_Bool (is_kept groups v w c)) [
        | inl kept ↦
            let go = go_by spans (switch_of v first) in
            let more : (o : Option Switch) → IfSome o (λ switch. go ≤ switch.row.cycle)
            → IfSome o (λ switch. low ≤ switch.row.cycle) = elim [
              | None ↦ λ late. tt
              | Some switch ↦ λ late. omega arith
            ] in
            rw kept (more (closing_in groups c w rows) (closes-from w go rows times.1))
        | inr shut ↦ rw shut here
      ]

  -- A switch that keeps the connection is gone through by the stay that comes with use case v, or by one
  -- that the rows open.
  through : (v low : ℕ) (rows : List SwitchRow) → AreInTime spans v low rows → (k u : ℕ)
      (row : SwitchRow) → Leaves v rows k u row → IsTrue (is_kept groups u row.to.0 c)
      → OpenThrough v rows u row ⊎ Through (stays_behind groups c v rows) u row
  through v low [] times k u row at kept = absurd at
  through v low (first ∷ rows) times zero u row at kept =
      let is = kept-is groups u row.to.0 c kept in
      let ends = closes-from first.to.0 (go_by spans (switch_of v first)) rows times.1 in
      let own : IsTrue (is_kept groups v first.to.0 c) = rw (at.0, at.1) kept in
      inl (record {
        has = rw at.0 is.left;
        group = ap (group_at groups) at.0;
        behind = rw own (rw (← at.0, ← at.1) ends);
      })
  through v low (first ∷ rows) times (suc k) u row at kept =
      let w = first.to.0 in
      let go = go_by spans (switch_of v first) in
      let late = leaves-late w go rows times.1 k u row at in
      let behind = stays_behind groups c w rows in
      let opening = Some (switch_of v first) in
      elim (through w go rows times.1 k u row at kept) [
        | inl still ↦ elim (cases_Bool (is_kept groups v w c)) [
          | inl same ↦
              let is = kept-is groups v w c same in
              inl (record {
                has = is.left;
                group = is.group ∙ still.group;
                behind = rw same still.behind;
              })
          | inr shut ↦
              let opens_is : IsTrue (opens groups v w c) =
              and_from (has_at groups w c) (not (is_kept groups v w c)) still.has
              (not_from_false (is_kept groups v w c) shut) in
              inr (record {
                stay = opened groups c opening w rows;
                has = stay_with-here groups c (opens groups v w c) opening w rows behind opens_is;
                group = still.group;
                before = late;
                behind = still.behind;
              })
        ]
        | inr one ↦ inr (record {
          stay = one.stay;
          has = stay_with-there groups c (opens groups v w c) opening w rows behind one.stay one.has;
          group = one.group;
          before = one.before;
          behind = one.behind;
        })
      ]

  -- So it is of all stays of a list of switches.
  all-through : (first : SwitchRow) (rows : List SwitchRow) → AreInTime spans first.to.0 0 rows
      → (k u : ℕ) (row : SwitchRow) → Leaves first.to.0 rows k u row
      → IsTrue (is_kept groups u row.to.0 c) → Through (stays_of groups c (first ∷ rows)) u row
  all-through first rows times k u row at kept =
      let v = first.to.0 in
      let behind = stays_behind groups c v rows in
      elim (through v 0 rows times k u row at kept) [
        | inl still ↦ record {
          stay = opened groups c None v rows;
          has = stay_with-here groups c (has_at groups v c) None v rows behind still.has;
          group = still.group;
          before = omega arith;
          behind = still.behind;
        }
        | inr one ↦ record {
          stay = one.stay;
          has = stay_with-there groups c (has_at groups v c) None v rows behind one.stay one.has;
          group = one.group;
          before = one.before;
          behind = one.behind;
        }
      ]

  -- The row behind another one leaves the use case that this enters.
  next-leaves : (v k : ℕ) (rows : List SwitchRow) (last next : SwitchRow)
      → slice_get rows k ≡ Some last → slice_get rows (suc k) ≡ Some next
      → Leaves v rows (suc k) last.to.0 next
  next-leaves v k [] last next at behind = absurd (none-some last at)
  next-leaves v zero (first ∷ []) last next at behind = absurd (none-some next behind)
  next-leaves v zero (first ∷ second ∷ rows) last next at behind = (
    ap (λ (row : SwitchRow). row.to.0) (same_Some first last at),
    same_Some second next behind,
  )
  next-leaves v (suc k) (first ∷ rows) last next at behind =
      next-leaves first.to.0 k rows last next at behind

-- The session of a stay that goes through a switch goes through it.
module _ (inputs : Inputs) (accepted : AreAccepted inputs) (sound : IsSound (run_of inputs))
    (untouched : (u v : ℕ) (channel : Channel)
    → IsTrue (is_kept (groups_of inputs.app) u v channel.conn.0) → (write : Write)
    → Contains (switch_program (groups_of inputs.app) (row_at (design_of inputs)) u v) write
    → Touches write (row_at (design_of inputs) (group_at (groups_of inputs.app) u) channel) → ⊥) where
  abbrev own_spans : SpanData
  own_spans = (run_of inputs).spans

  closes-late : (u : ℕ) (row : SwitchRow) (closing : Option Switch)
      → IfSome closing (λ switch. go_after own_spans u row ≤ switch.row.cycle)
      → IfSome (option_map (close_by own_spans) closing)
      (λ (close : Close). go_after own_spans u row ≤ close.until)
  closes-late u row None late = tt
  closes-late u row (Some switch) late = late

  stays-go : (rows : List SwitchRow) → inputs.switches ≡ rows → (k : ℕ) (last next : SwitchRow)
      (channel : Channel) → slice_get rows k ≡ Some last → slice_get rows (suc k) ≡ Some next
      → IsTrue (is_kept (groups_of inputs.app) last.to.0 next.to.0 channel.conn.0)
      → GoesThrough inputs channel last.to.0 next
  stays-go [] are k last next channel at behind kept = absurd (none-some last at)
  stays-go (first ∷ rows) are k last next channel at behind kept =
      let groups = groups_of inputs.app in
      let c = channel.conn.0 in
      let times = in_time own_spans first.to.0 0 2 rows (rw are at sound.apart) in
      let one = all-through groups own_spans c first rows times k last.to.0 next
      (next-leaves groups own_spans c 0 k (first ∷ rows) last next at behind) kept in
      record {
        session = session_of own_spans one.stay;
        has = rw are (Contains-map (session_of own_spans) (stays_of groups c (first ∷ rows)) one.stay
            one.has);
        group = one.group;
        before = one.before;
        behind = closes-late last.to.0 next one.stay.closing one.behind;
        untouched = untouched last.to.0 next.to.0 channel kept;
      }

  pub goes-through : (k : ℕ) (last next : SwitchRow) (channel : Channel)
      → slice_get inputs.switches k ≡ Some last → slice_get inputs.switches (k + 1) ≡ Some next
      → IsTrue (is_kept (groups_of inputs.app) last.to.0 next.to.0 channel.conn.0)
      → GoesThrough inputs channel last.to.0 next
  goes-through k last next channel at behind =
      let one_more : k + 1 ≡ suc k = omega arith in
      stays-go inputs.switches refl k last next channel at
      (subst (λ n. slice_get inputs.switches n ≡ Some next) one_more behind)
