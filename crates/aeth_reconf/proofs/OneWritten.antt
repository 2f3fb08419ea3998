-- Routes that stand written at one time are of connections that are together, and where their rows
-- meet they are of one stay; so are slots.
use Rattle.std.proofs.Common.{◌≡◌, ◌≤◌, ◌<◌, ℕ, ◌+◌, List, [], ◌∷◌, Option, Some, None, length, sym}
use Rattle.std.proofs.Common.{subst, inr, arith, IfSome}
use Rattle.std.proofs.lemmas.List.Elements.{All-head, All-tail}
use Rattle.std.proofs.lemmas.Option.{slice_get_within}
use Rattle.aeth_base.specs.declared.ids.Channel.{Channel}
use Rattle.aeth_group.specs.Members.{GroupsData, group_at}
use Rattle.aeth_trace.specs.{Spans.SpanData, declared.switches.SwitchRow.SwitchRow}
use Rattle.aeth_report.specs.Sessions.{Stay, Switch, go_by, stays_of}
use Rattle.aeth_report.proofs.SessionMeetings.{AreInTime, in_time}
use Rattle.aeth_report.proofs.StayMeetings.{AreRising, Covers, Meet, stays_meet}
use Rattle.aeth_report.proofs.Stays.{AreKnown, IsClosedBy, IsKnown, stays_of-is, switch_of}
use Rattle.aeth_report.proofs.StaysAlone.{at-Contains, stays_alone}
use Rattle.aeth_reconf.specs.Rows.{Meets, RowOf}
use Rattle.aeth_reconf.specs.Windows.{AreAllApart, AreBothWritten, AreCounted, AreWritable}
use Rattle.aeth_reconf.specs.Windows.{IsStayAt, IsSlotWritten, IsWritten, cleared_of, clears_from}
use Rattle.aeth_reconf.specs.Windows.{freed_of, set_of, sets_from}
use Rattle.aeth_reconf.proofs.WindowLemmas.{closing-within, slots_in_order}

module _ (groups : GroupsData) (spans : SpanData) where
  -- ---- what is read of switches rises

  -- It is between the finish of what a switch closes and the go of what it opens, each a cycle later.
  pub record IsBetween (bound : Switch → ℕ) : Type 0 where
    pub finished : (switch : Switch) → clears_from spans switch ≤ bound switch
    pub going : (switch : Switch) → switch.leaves < length groups.uses
        → switch.row.to.0 < length groups.uses
        → bound switch ≤ go_by spans switch + 1

  -- Such is when a switch begins to clear: it has finished what it closes.
  pub clears-between : IsBetween (clears_from spans)
  clears-between = record {
    finished = λ switch. omega arith;
    going = λ switch left known. omega arith;
  }

  -- So it rises over rows in time.
  pub rising : (bound : Switch → ℕ) → IsBetween bound → (u low before : ℕ) (rows : List SwitchRow)
      → u < length groups.uses → AreKnown groups rows → before ≤ low + 1 → AreInTime spans u low rows
      → AreRising groups bound u before rows
  rising bound between u low before [] inside known le times = tt
  rising bound between u low before (row ∷ rows) inside known le times =
      let first = times.0 in
      let switch = switch_of u row in
      let finished = between.finished switch in
      let next : row.to.0 < length groups.uses = All-head (IsKnown groups) row rows known in
      let going = between.going switch inside next in
      let later : AreKnown groups rows = All-tail (IsKnown groups) row rows known in (
        omega arith,
        rising bound between row.to.0 (go_by spans switch) (bound switch) rows next later
            (omega arith) times.1,
      )

module _ (groups : GroupsData) (row_of : RowOf) (spans : SpanData) where
  -- ---- routes that stand written at one time

  -- When a switch begins to set.
  abbrev begins : Switch → ℕ
  begins = sets_from groups row_of spans

  begins-between : AreCounted groups row_of spans → IsBetween groups spans begins
  begins-between counted = record {
    finished = λ switch. omega arith;
    going = λ switch left known.
        let room = counted switch.leaves switch.row.to.0 left known in omega arith;
  }

  -- A stay whose route stands written covers the time, by what switches set.
  written-covers : (rows : List SwitchRow) → AreKnown groups rows → (channel : Channel) (i : ℕ)
      (s : Stay) → IsStayAt groups rows channel i s → (t : ℕ)
      → IsWritten groups row_of spans channel s t → Covers groups begins s t
  written-covers rows known channel i s is t written =
      let has = at-Contains (stays_of groups channel.conn.0 rows) i s is.at in
      let closed = (stays_of-is groups channel.conn.0 rows s known has).closed in
      let openings : (o : Option Switch) → set_of groups row_of spans channel o ≤ t
      → IfSome o (λ switch. begins switch ≤ t) = elim [
        | None ↦ λ set. tt
        | Some switch ↦ λ set. omega arith
      ] in
      let closings : (o : Option Switch)
      → IfSome o (IsClosedBy groups channel.conn.0 s.group)
      → IfSome o (λ switch. t < freed_of groups row_of spans s.group channel switch)
      → IfSome o (λ switch. t < begins switch) = elim [
        | None ↦ λ none free. tt
        | Some switch ↦ λ closer free.
            let within = closing-within groups row_of spans channel s.group switch is.known closer in
            omega arith
      ] in
      record {
        opened_by = openings s.opening written.set;
        closed_by = closings s.closing closed written.unfreed;
      }

  -- Two of them are of connections that are together in one group.
  pub written_meet : (rows : List SwitchRow) → AreWritable groups row_of spans rows
      → (one other : Channel) (i j : ℕ) (s e : Stay) (t : ℕ)
      → AreBothWritten groups row_of spans rows one other i j s e t
      → Meet groups one.conn.0 other.conn.0 s e
  written_meet [] may one other i j s e t both = absurd (cc both.first.at)
  written_meet (first ∷ rows) may one other i j s e t both =
      let all = first ∷ rows in
      let later : AreKnown groups rows = All-tail (IsKnown groups) first rows may.known in
      stays_meet groups begins rows first.to.0 0 one.conn.0 other.conn.0 None None t
      (rising groups spans begins (begins-between may.counted) first.to.0 0 0 rows
      (All-head (IsKnown groups) first rows may.known) later (omega arith)
      (in_time spans first.to.0 0 2 rows may.apart)) s e
      (at-Contains (stays_of groups one.conn.0 all) i s both.first.at)
      (at-Contains (stays_of groups other.conn.0 all) j e both.second.at)
      (written-covers all may.known one i s both.first t both.written)
      (written-covers all may.known other j e both.second t both.written_too)

  -- Of one channel they are one.
  written_alone : (rows : List SwitchRow) → AreWritable groups row_of spans rows
      → (channel : Channel) (i j : ℕ) (s e : Stay) (t : ℕ)
      → AreBothWritten groups row_of spans rows channel channel i j s e t → i ≡ j
  written_alone [] may channel i j s e t both = absurd (cc both.first.at)
  written_alone (first ∷ rows) may channel i j s e t both =
      let all = first ∷ rows in
      let later : AreKnown groups rows = All-tail (IsKnown groups) first rows may.known in
      stays_alone groups begins channel.conn.0 rows None first.to.0 0 t
      (rising groups spans begins (begins-between may.counted) first.to.0 0 0 rows
      (All-head (IsKnown groups) first rows may.known) later (omega arith)
      (in_time spans first.to.0 0 2 rows may.apart)) i j s e both.first.at both.second.at
      (written-covers all may.known channel i s both.first t both.written)
      (written-covers all may.known channel j e both.second t both.written_too)

  -- So they are where their rows meet.
  pub written_one : (rows : List SwitchRow) → AreWritable groups row_of spans rows
      → AreAllApart groups row_of → (one other : Channel) (i j : ℕ) (s e : Stay) (t : ℕ)
      → AreBothWritten groups row_of spans rows one other i j s e t
      → Meets (row_of s.group one) (row_of e.group other) → (one ≡ other) × (i ≡ j)
  written_one rows may apart one other i j s e t both meets =
      let meet = written_meet rows may one other i j s e t both in
      let together = meet.together in
      let group : group_at groups together.use_case ≡ s.group = together.in_group in
      let there : Meets (row_of s.group one) (row_of s.group other) =
      subst (λ (g : ℕ). Meets (row_of s.group one) (row_of g other)) (sym meet.group) meets in
      let same = apart together.use_case one other together.first together.second
      (subst (λ (g : ℕ). Meets (row_of g one) (row_of g other)) (sym group) there) in (
        same,
        written_alone rows may other i j s e t
            (subst (λ (ch : Channel). AreBothWritten groups row_of spans rows ch other i j s e t) same
            both),
      )

  -- Where a slot stands written the route does.
  slot-written : (rows : List SwitchRow) → AreWritable groups row_of spans rows
      → (channel : Channel) (i : ℕ) (s : Stay) → IsStayAt groups rows channel i s
      → (k slot t : ℕ) → IsSlotWritten groups row_of spans channel s k slot t
      → IsWritten groups row_of spans channel s t
  slot-written rows may channel i s is k slot t written =
      let slots = (row_of s.group channel).slots.slots in
      let order = slots_in_order groups row_of spans rows may channel i s is k
      (slice_get_within slots k slot written.is) in
      let frees : (o : Option Switch) → IfSome o (λ switch.
      cleared_of groups row_of spans channel switch k
      < freed_of groups row_of spans s.group channel switch)
      → IfSome o (λ switch. t < cleared_of groups row_of spans channel switch k)
      → IfSome o (λ switch. t < freed_of groups row_of spans s.group channel switch) = elim [
        | None ↦ λ free uncleared. tt
        | Some switch ↦ λ free uncleared. omega arith
      ] in
      let first = order.behind_route in
      let set = written.set in
      record {
        set = omega arith;
        unfreed = frees s.closing order.then_free written.uncleared;
      }

  -- So two slots that stand written at one time are of one stay.
  pub slot_one : (rows : List SwitchRow) → AreWritable groups row_of spans rows
      → AreAllApart groups row_of → (one other : Channel) (i j : ℕ) (s e : Stay)
      → IsStayAt groups rows one i s → IsStayAt groups rows other j e → (k m slot t : ℕ)
      → IsSlotWritten groups row_of spans one s k slot t
      → IsSlotWritten groups row_of spans other e m slot t
      → (row_of s.group one).ni ≡ (row_of e.group other).ni → (one ≡ other) × (i ≡ j)
  slot_one rows may apart one other i j s e at_s at_e k m slot t written_s written_e ni =
      written_one rows may apart one other i j s e t (record {
        first = at_s;
        second = at_e;
        written = slot-written rows may one i s at_s k slot t written_s;
        written_too = slot-written rows may other j e at_e m slot t written_e;
      }) (record {
        ni = ni;
        shares = inr (
          slot,
          at-Contains (row_of s.group one).slots.slots k slot written_s.is,
          at-Contains (row_of e.group other).slots.slots m slot written_e.is,
        );
      })
