-- A queue is handed on from stay to stay, and has one owner at a time.
use Rattle.std.proofs.Common.{◌≡◌, ◌≤◌, ◌<◌, ◌⊎◌, ◌∙◌, ℕ, zero, suc, ◌+◌, List, [], ◌∷◌, Option}
use Rattle.std.proofs.Common.{Some, None, get_or, slice_get, refl, sym, ap, subst, inl, inr, arith}
use Rattle.std.proofs.Common.{IfSome}
use Rattle.std.proofs.lemmas.{Bool.cases_order, List.Elements.All-head, List.Elements.All-tail}
use Rattle.std.proofs.lemmas.{Option.same_Some, Option.slice_get-get_or, Option.slice_get_within}
use Rattle.aeth_base.specs.declared.ids.Channel.{Channel}
use Rattle.aeth_group.specs.Members.{GroupsData}
use Rattle.aeth_trace.specs.{Spans.SpanData, declared.switches.SwitchRow.SwitchRow}
use Rattle.aeth_report.specs.Sessions.{Stay, Switch, close_by, go_of, stays_of}
use Rattle.aeth_report.proofs.{SessionMeetings.in_time, SessionOrder.stays-after, Stays.AreKnown}
use Rattle.aeth_report.proofs.{Stays.IsKnown, Stays.stays_of-is, StaysAlone.at-Contains}
use Rattle.aeth_reconf.specs.Rows.{RowOf}
use Rattle.aeth_reconf.specs.Windows.{AreWritable, AreQueuesApart, IsHandedOn, IsOwned, IsStayAt}
use Rattle.aeth_reconf.specs.Windows.{clears_from, set_of, since_of}
use Rattle.aeth_reconf.proofs.OneWritten.{clears-between, rising}
use Rattle.aeth_reconf.proofs.StayTurns.{AreInTurn, opened_at, stays-turn}

module _ (groups : GroupsData) (row_of : RowOf) (spans : SpanData) where
  -- When a switch has finished what it closes.
  abbrev ends : Switch → ℕ
  ends = clears_from spans

  -- When the switch that opens a stay has finished what it closes.
  abbrev began_at : Option Switch → ℕ
  began_at = opened_at groups ends

  -- So the stays of rows that can be written come in turn.
  in_turn : (rows : List SwitchRow) → AreWritable groups row_of spans rows → (c : ℕ)
      → AreInTurn groups ends (stays_of groups c rows)
  in_turn [] may c = λ i j s e less at_s at_e. absurd (cc at_s)
  in_turn (first ∷ rows) may c =
      let later : AreKnown groups rows = All-tail (IsKnown groups) first rows may.known in
      stays-turn groups ends c first rows 0
      (rising groups spans ends (clears-between groups spans) first.to.0 0 0 rows
      (All-head (IsKnown groups) first rows may.known) later (omega arith)
      (in_time spans first.to.0 0 2 rows may.apart))

  -- The queue is handed on to a later stay, whose switch has finished by then too.
  record IsTakenOver (stays : List Stay) (place : ℕ) (e : Stay) : Type 0 where
    handed : IsHandedOn spans stays place
    early : (close_by spans handed.switch).fin + 1 ≤ began_at e.opening

  taken_next : (stays : List Stay) → AreInTurn groups ends stays → (place : ℕ) (e : Stay)
      → slice_get stays (suc place) ≡ Some e → IsTakenOver stays (suc place) e
  taken_next stays turns place e at =
      let inside = slice_get_within stays (suc place) e at in
      let s = get_or stays place e in
      let there : slice_get stays place ≡ Some s =
      slice_get-get_or stays place e (omega arith) in
      let before = turns place (suc place) s e (omega arith) there at in
      record {
        handed = record {
          stay = s;
          before = place;
          next = omega arith;
          at = there;
          switch = before.switch;
          closing = before.closing;
          since = rw (there, before.closing) refl;
        };
        early = before.early;
      }

  taken_over : (stays : List Stay) → AreInTurn groups ends stays → (place : ℕ) (e : Stay)
      → slice_get stays place ≡ Some e
      → (since_of spans stays place ≡ 0) ⊎ IsTakenOver stays place e
  taken_over stays turns zero e at = inl refl
  taken_over stays turns (suc place) e at = inr (taken_next stays turns place e at)

  -- ---- the owner of a queue

  module _ (rows : List SwitchRow) (may : AreWritable groups row_of spans rows) where
    -- What opens a stay has finished by the time that what closes it has.
    began-ends : (c place : ℕ) (s : Stay) → slice_get (stays_of groups c rows) place ≡ Some s
        → (closer : Switch) → s.closing ≡ Some closer
        → began_at s.opening ≤ ends closer
    began-ends c place s at closer closes =
        let has = at-Contains (stays_of groups c rows) place s at in
        let after : go_of spans s.opening ≤ (close_by spans closer).until =
        subst (λ (o : Option Switch). IfSome o (λ switch.
        go_of spans s.opening ≤ (close_by spans switch).until)) closes
        (stays-after groups spans rows c may.apart s has) in
        let goes : (o : Option Switch) → began_at o ≤ go_of spans o + 1 = elim [
          | None ↦ omega arith
          | Some switch ↦ omega arith
        ] in
        let began = goes s.opening in
        omega arith

    -- A later stay has the queue only once an earlier one has finished.
    later : (c i j : ℕ) (s e : Stay) → i < j → slice_get (stays_of groups c rows) i ≡ Some s
        → slice_get (stays_of groups c rows) j ≡ Some e → (t : ℕ)
        → IsOwned spans (stays_of groups c rows) i s t
        → IsOwned spans (stays_of groups c rows) j e t → ⊥
    later c i zero s e less at_s at_e t owned_s owned_e = absurd (omega arith)
    later c i (suc j) s e less at_s at_e t owned_s owned_e =
        let stays = stays_of groups c rows in
        let turns = in_turn rows may c in
        let handed = (taken_next stays turns j e at_e).handed in
        let next = handed.next in
        let since = owned_e.since in
        let is = handed.since in
        -- What closes the earlier one finishes at the time or later.
        let late : (closer : Switch) → s.closing ≡ Some closer → t ≤ (close_by spans closer).fin =
        λ closer closes. subst (λ (o : Option Switch). IfSome o (λ switch.
        t ≤ (close_by spans switch).fin)) closes owned_s.unfinished in
        elim (cases_order i handed.before) [
          | inl same ↦
              let one : s ≡ handed.stay =
              same_Some s handed.stay (sym at_s ∙ ap (slice_get stays) same ∙ handed.at) in
              let fin = late handed.switch (ap (λ (x : Stay). x.closing) one ∙ handed.closing) in
              absurd (omega arith)
          | inr other ↦ elim other [
            | inl before ↦
                let own = turns i handed.before s handed.stay before at_s handed.at in
                let fin = late own.switch own.closing in
                let early = own.early in
                let began = began-ends c handed.before handed.stay handed.at handed.switch handed.closing in
                absurd (omega arith)
            | inr behind ↦ absurd (omega arith)
          ]
        ]

    -- So one stay alone has the queue at a time, where it is one channel's.
    pub owned_one : AreQueuesApart groups row_of → (one other : Channel) (i j : ℕ) (s e : Stay)
        → IsStayAt groups rows one i s → IsStayAt groups rows other j e → (t : ℕ)
        → IsOwned spans (stays_of groups one.conn.0 rows) i s t
        → IsOwned spans (stays_of groups other.conn.0 rows) j e t
        → (row_of s.group one).ni ≡ (row_of e.group other).ni
        → (row_of s.group one).queue ≡ (row_of e.group other).queue → (one ≡ other) × (i ≡ j)
    owned_one own one other i j s e is_s is_e t owned_s owned_e ni queue =
        let is_one = stays_of-is groups one.conn.0 rows s may.known
        (at-Contains (stays_of groups one.conn.0 rows) i s is_s.at) in
        let is_other = stays_of-is groups other.conn.0 rows e may.known
        (at-Contains (stays_of groups other.conn.0 rows) j e is_e.at) in
        let same = own is_one.use_case is_other.use_case one other is_one.has is_other.has
        (rw (is_one.in_group, is_other.in_group) ni)
        (rw (is_one.in_group, is_other.in_group) queue) in
        let stays = λ (ch : Channel). stays_of groups ch.conn.0 rows in
        let c = other.conn.0 in
        let at_s : slice_get (stays other) i ≡ Some s =
        subst (λ (ch : Channel). slice_get (stays ch) i ≡ Some s) same is_s.at in
        let first = subst (λ (ch : Channel). IsOwned spans (stays ch) i s t) same owned_s in (
          same,
          elim (cases_order i j) [
            | inl equal ↦ equal
            | inr apart ↦ elim apart [
              | inl less ↦ absurd (later c i j s e less at_s is_e.at t first owned_e)
              | inr more ↦ absurd (later c j i e s more is_e.at at_s t owned_e first)
            ]
          ],
        )

    -- And a queue is a stay's own from the start on, or handed on to it.
    pub follows : (channel : Channel) (place : ℕ) (s : Stay) → IsStayAt groups rows channel place s
        → (since_of spans (stays_of groups channel.conn.0 rows) place ≡ 0)
        ⊎ IsHandedOn spans (stays_of groups channel.conn.0 rows) place
    follows channel place s is =
        let stays = stays_of groups channel.conn.0 rows in
        elim (taken_over stays (in_turn rows may channel.conn.0) place s is.at) [
          | inl start ↦ inl start
          | inr over ↦ inr over.handed
        ]

    -- It is its own before its route is set.
    pub owned_first : (channel : Channel) (place : ℕ) (s : Stay)
        → IsStayAt groups rows channel place s
        → since_of spans (stays_of groups channel.conn.0 rows) place
        ≤ set_of groups row_of spans channel s.opening
    owned_first channel place s is =
        let stays = stays_of groups channel.conn.0 rows in
        let sets : (o : Option Switch) → began_at o ≤ set_of groups row_of spans channel o = elim [
          | None ↦ omega arith
          | Some switch ↦ omega arith
        ] in
        let set = sets s.opening in
        elim (taken_over stays (in_turn rows may channel.conn.0) place s is.at) [
          | inl start ↦ omega arith
          | inr over ↦
              let since = over.handed.since in
              let early = over.early in
              omega arith
        ]
