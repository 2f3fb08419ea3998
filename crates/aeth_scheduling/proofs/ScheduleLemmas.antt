-- What is made from the lines of all use cases is what the switches of a run do.
use Rattle.std.proofs.Common.{◌≡◌, ◌∙◌, ◌<◌, ◌≤◌, ◌*◌, ℕ, List, [], ◌∷◌, All, Contains, ap, arith}
use Rattle.std.proofs.Common.{◌==◌, filter, inl, inr, length, map, not, refl, subst, sym, flat_map}
use Rattle.std.proofs.Common.{eq-eqb}
use Rattle.std.proofs.lemmas.Bool.{cases_Bool}
use Rattle.std.proofs.lemmas.List.Elements.{All-head, All-nil, All-tail}
use Rattle.std.proofs.lemmas.List.FromFn.{get_or-map-range_with_len, length-map-range_with_len}
use Rattle.std.specs.List.{range_with_len}
use Rattle.aeth_base.specs.Limits.{max_path_delay}
use Rattle.aeth_base.specs.declared.ids.Side.{Side, TheVariants.Back, TheVariants.Fwd}
use Rattle.aeth_base.specs.declared.ids.UseId.{UseId}
use Rattle.aeth_base.proofs.Members.{Contains-cases, Contains-here, Contains-nil, Contains-there}
use Rattle.aeth_base.proofs.Members.{filter-Contains, flat_map-Contains}
use Rattle.aeth_slots.specs.SlotSet.{greatest}
use Rattle.aeth_chip.specs.Paths.{path_delay}
use Rattle.aeth_ni.specs.{Limits.queues_of_interface, declared.row.ChannelRow.ChannelRow}
use Rattle.aeth_group.specs.Members.{GroupsData, group_at, groups_of, has_at, is_kept}
use Rattle.aeth_group.proofs.{ListLemmas.any_from_passes, MemberLemmas.length-groups_of}
use Rattle.aeth_trace.specs.Spans.{SpanData, span_of}
use Rattle.aeth_trace.specs.declared.{switches.SwitchRow.SwitchRow, words.WordRow.WordRow}
use Rattle.aeth_report.specs.Channels.{channels_with}
use Rattle.aeth_reconf.specs.Rows.{rows_that}
use Rattle.aeth_tables.specs.{Tables.tables_of, Granted.Granted, Granted.grant_on}
use Rattle.aeth_tables.specs.{Granted.granted_in, Promises.HasNumbers, Switching.changing}
use Rattle.aeth_tables.specs.{Switching.delays_in, Switching.lag_of, Switching.spans_of}
use Rattle.aeth_tables.specs.{TableText.IsRowOf}
use Rattle.aeth_tables.proofs.{PromiseLaws.are_printable, PromiseLaws.keep_promises}
use Rattle.aeth_tables.proofs.{ListLaws.all_from_places, ListLaws.all_has, ListLaws.has_place}
use Rattle.aeth_tables.proofs.{ShapeRanges.shape_in_range, UseLaws.is_reserved}
use Rattle.aeth_accepted.specs.Inputs.{AreAccepted, Inputs, design_of, row_at, run_of}
use Rattle.aeth_accepted.proofs.TableFlows.{rows-of_tables}
use Rattle.aeth_scheduling.specs.Entered.{entered_lines, is_entered, lines_if_entered}
use Rattle.aeth_scheduling.specs.Made.{AreRows, IsSetting, IsTask, events_over, loaded_over}
use Rattle.aeth_scheduling.specs.Made.{timed_over}
use Rattle.aeth_scheduling.specs.Tasks.{AreSpansFor}
use Rattle.aeth_scheduling.proofs.LineLemmas.{changed-of, rows-with}
use Rattle.aeth_schedule.specs.{Lines.all_lines, Lines.lines_at, Lines.lines_of, Rooms.queue_number}
use Rattle.aeth_schedule.specs.{declared.lines.Line.Line, SessionStarts.session_starts_behind}
use Rattle.aeth_schedule.specs.{SessionStarts.session_starts_from, Windows.windows_over}
use Rattle.aeth_schedule.specs.{Values.values_of, Switching.events_by, Switching.loaded_of}
use Rattle.aeth_schedule.specs.{Switching.switches_from, Switching.timed_of, Timed.within}
use Rattle.aeth_schedule.proofs.{LineLemmas.line-at, LineLemmas.lines-all, SwitchRows.rows-known}

-- What is made of a list of rows is the same with other spans, where these are the same as soon as a
-- switch follows the first row.
module _ (groups : GroupsData) (spans other : SpanData) (all : List (List Line)) where
  pub timed-by : (rows : List SwitchRow) (cycles : ℕ) → (2 ≤ length rows → spans ≡ other)
      → timed_over groups spans all rows cycles ≡ timed_over groups other all rows cycles
  timed-by [] cycles same = refl
  timed-by (first ∷ []) cycles same = refl
  timed-by (first ∷ row ∷ rows) cycles same =
      ap (λ (s : SpanData). timed_over groups s all (first ∷ row ∷ rows) cycles)
      (same (omega arith))

  pub session_starts-by : (words : List WordRow) (cycles : ℕ) (rows : List SwitchRow)
      → (2 ≤ length rows → spans ≡ other)
      → session_starts_from groups spans all words cycles rows
      ≡ session_starts_from groups other all words cycles rows
  session_starts-by words cycles [] same = refl
  session_starts-by words cycles (first ∷ []) same = refl
  session_starts-by words cycles (first ∷ row ∷ rows) same =
      ap (λ (s : SpanData). session_starts_from groups s all words cycles (first ∷ row ∷ rows))
      (same (omega arith))

-- The greatest is no more than what all are at most.
pub greatest-below : (xs : List ℕ) (n : ℕ) → ((x : ℕ) → Contains xs x → x ≤ n) → greatest xs ≤ n
greatest-below [] n all = omega arith
greatest-below (x ∷ xs) n all =
    let first = all x (Contains-here x xs) in
    let rest = greatest-below xs n (λ y has. all y (Contains-there x xs y has)) in
    omega arith

-- What is made of a list of rows is the same by other lines, where those of the use cases that the rows
-- enter are the same.
abbrev pub HasSameLines : List (List Line) → List (List Line) → SwitchRow → Type 0
HasSameLines all other row = lines_at all row.to.0 ≡ lines_at other row.to.0

module _ (groups : GroupsData) (spans : SpanData) (all other : List (List Line)) where
  abbrev HasSame : SwitchRow → Type 0
  HasSame row = HasSameLines all other row

  events-lines : (u : ℕ) (rows : List SwitchRow) → lines_at all u ≡ lines_at other u
      → All HasSame rows → flat_map (events_over groups spans all) (switches_from u rows)
      ≡ flat_map (events_over groups spans other) (switches_from u rows)
  events-lines u [] left same = refl
  events-lines u (row ∷ rows) left same =
      let to = All-head HasSame row rows same in
      let rest = events-lines row.to.0 rows to (All-tail HasSame row rows same) in
      rw (left, to, rest) refl

  pub timed-lines : (rows : List SwitchRow) (cycles : ℕ) → All HasSame rows
      → timed_over groups spans all rows cycles ≡ timed_over groups spans other rows cycles
  timed-lines [] cycles same = refl
  timed-lines (first ∷ rows) cycles same =
      ap (within cycles) (events-lines first.to.0 rows (All-head HasSame first rows same)
      (All-tail HasSame first rows same))

  behind-lines : (words : List WordRow) (cycles u : ℕ) (rows : List SwitchRow) → All HasSame rows
      → session_starts_behind groups spans all words cycles u rows
      ≡ session_starts_behind groups spans other words cycles u rows
  behind-lines words cycles u [] same = refl
  behind-lines words cycles u (row ∷ rows) same =
      let to = All-head HasSame row rows same in
      let rest = behind-lines words cycles row.to.0 rows (All-tail HasSame row rows same) in
      rw (to, rest) refl

  pub session_starts-lines : (words : List WordRow) (cycles : ℕ) (rows : List SwitchRow)
      → All HasSame rows
      → session_starts_from groups spans all words cycles rows
      ≡ session_starts_from groups spans other words cycles rows
  session_starts-lines words cycles [] same = refl
  session_starts-lines words cycles (first ∷ rows) same =
      let to = All-head HasSame first rows same in
      let rest = behind-lines words cycles first.to.0 rows (All-tail HasSame first rows same) in
      rw (to, rest) refl

  pub loaded-lines : (rows : List SwitchRow) → All HasSame rows
      → loaded_over all rows ≡ loaded_over other rows
  loaded-lines [] same = refl
  loaded-lines (first ∷ rows) same = rw (All-head HasSame first rows same) refl

pub windows-by : (spans other : SpanData) (rows : List SwitchRow)
    → (2 ≤ length rows → spans ≡ other) → windows_over spans rows ≡ windows_over other rows
windows-by spans other [] same = refl
windows-by spans other (first ∷ []) same = refl
windows-by spans other (first ∷ row ∷ rows) same =
    ap (λ (s : SpanData). windows_over s (first ∷ row ∷ rows)) (same (omega arith))

module _ (inputs : Inputs) (accepted : AreAccepted inputs) where
  -- There are as many shapes as rows.
  as-many : (u : ℕ) → u < length inputs.app.uses
      → length (tables_of inputs.chip inputs.app (groups_of inputs.app) inputs.plan
      (record { 0 = u })).rows
      ≡ length (tables_of inputs.chip inputs.app (groups_of inputs.app) inputs.plan
      (record { 0 = u })).shapes
  as-many u known = (are_printable inputs.chip inputs.app inputs.plan accepted.design
      (record { 0 = u }) known).count

  -- The rows of the lines of a use case are those of its channels.
  rows-of : (u : ℕ) → u < length inputs.app.uses → map (λ line. line.row) (lines_of inputs u)
      ≡ rows_that (groups_of inputs.app) (row_at (design_of inputs))
      (group_at (groups_of inputs.app) u) (has_at (groups_of inputs.app) u)
  rows-of u known =
      let groups = groups_of inputs.app in
      let has = row_at (design_of inputs) (group_at groups u) in
      let conns = filter (has_at groups u) (range_with_len 0 groups.connections) in
      let tables = tables_of inputs.chip inputs.app groups inputs.plan (record { 0 = u }) in
      let rows = rows-of_tables inputs accepted (record { 0 = u }) known in
      let shapes : length tables.shapes ≡ length (map has (flat_map channels_with conns)) =
      sym (as-many u known) ∙ ap (λ (list : List ChannelRow). length list) rows in
      rw rows (rows-with has conns tables.shapes shapes)

  -- The events of a switch.
  events-same : (u : ℕ) (row : SwitchRow) → u < length inputs.app.uses
      → row.to.0 < length inputs.app.uses
      → events_over (groups_of inputs.app) (run_of inputs).spans (all_lines inputs)
      (record { leaves = u; row = row }) ≡ events_by inputs (record { leaves = u; row = row })
  events-same u row from to =
      rw (
        line-at inputs accepted u from,
        line-at inputs accepted row.to.0 to,
        changed-of inputs accepted u row.to.0 u from (as-many u from),
        changed-of inputs accepted u row.to.0 row.to.0 to (as-many row.to.0 to),
      ) refl

  -- Those of all switches.
  events-all : (u : ℕ) (rows : List SwitchRow) → u < length inputs.app.uses
      → All (λ row. row.to.0 < length inputs.app.uses) rows
      → flat_map (events_over (groups_of inputs.app) (run_of inputs).spans (all_lines inputs))
      (switches_from u rows) ≡ flat_map (events_by inputs) (switches_from u rows)
  events-all u [] from known = refl
  events-all u (row ∷ rows) from known =
      let fits = λ (one : SwitchRow). one.to.0 < length inputs.app.uses in
      let to = All-head fits row rows known in
      let rest = events-all row.to.0 rows to (All-tail fits row rows known) in
      rw (events-same u row from to, rest) refl

  -- The events of the run.
  pub timed-same : (rows : List SwitchRow) → rows ≡ inputs.switches
      → timed_over (groups_of inputs.app) (run_of inputs).spans (all_lines inputs) rows inputs.cycles
      ≡ timed_of inputs
  unfolding timed_of
  timed-same [] are = rw (← are) refl
  timed-same (first ∷ rows) are =
      let fits = λ (one : SwitchRow). one.to.0 < length inputs.app.uses in
      let known = subst (λ (list : List SwitchRow). All fits list) (sym are) accepted.switches.known in
      let all = events-all first.to.0 rows (All-head fits first rows known)
      (All-tail fits first rows known) in
      rw (← are) (ap (within inputs.cycles) all)

  -- What is written before the first cycle.
  pub loaded-same : (rows : List SwitchRow) → rows ≡ inputs.switches
      → loaded_over (all_lines inputs) rows ≡ loaded_of inputs
  loaded-same [] are = rw (← are) refl
  loaded-same (first ∷ rows) are =
      let fits = λ (one : SwitchRow). one.to.0 < length inputs.app.uses in
      let known = subst (λ (list : List SwitchRow). All fits list) (sym are) accepted.switches.known in
      let to = All-head fits first rows known in
      rw (← are, line-at inputs accepted first.to.0 to, rows-of first.to.0 to) refl

  -- There are spans for each use case.
  pub spans-are : (run_of inputs).spans.uses ≡ length (groups_of inputs.app).uses
  unfolding spans_of
  spans-are = refl

  -- The switches are rows between known use cases.
  pub rows-are : AreRows (length (groups_of inputs.app).uses) inputs.switches
  rows-are = record {
    known = rows-known inputs accepted;
    cycles = accepted.switches.cycles;
    drains = accepted.switches.drains;
  }

  -- A line names a connection and lands at a queue of the chip.
  abbrev pub Fits : Line → Type 0
  Fits line = (line.row.channel.conn.0 < length inputs.app.connections)
      × (queue_number line < queues_of_interface * length inputs.chip.nis)

  lines-fit : (u : ℕ) → u < length inputs.app.uses → All Fits (lines_of inputs u)
  lines-fit u known =
      let number : UseId = record { 0 = u } in
      let tables = tables_of inputs.chip inputs.app (groups_of inputs.app) inputs.plan number in
      let kept = keep_promises inputs.chip inputs.app inputs.plan accepted.design number known in
      lines-all (λ row. IsRowOf inputs.chip inputs.app row × HasNumbers row) Fits
      (λ row shape other one two.
      let ni = two.0.ni in
      let queue = two.1.queue in
      (one.0.conn, omega arith))
      tables.rows tables.shapes (λ k d within. (kept.known k d within, kept.numbered k d within))

  pub all-fit : All (All Fits) (all_lines inputs)
  all-fit k d within =
      let count = length-map-range_with_len (lines_of inputs) 0 (length inputs.app.uses) in
      let known : k < length inputs.app.uses = omega (arith, count) in
      subst (λ (lines : List Line). All Fits lines)
      (sym (get_or-map-range_with_len (lines_of inputs) 0 (length inputs.app.uses) k k d known
      (omega arith))) (lines-fit k known)

  -- There are entered lines for each use case, and each of these fits.
  pub entered-are : length (entered_lines inputs) ≡ length (groups_of inputs.app).uses
  entered-are = length-map-range_with_len (lines_if_entered inputs) 0 (length inputs.app.uses)
      ∙ sym (length-groups_of inputs.app)

  if-entered-fit : (u : ℕ) → u < length inputs.app.uses → All Fits (lines_if_entered inputs u)
  if-entered-fit u known = elim (cases_Bool (is_entered inputs.switches u)) [
    | inl entered ↦ rw entered (lines-fit u known)
    | inr other ↦ rw other (All-nil Fits)
  ]

  entered-fit : All (All Fits) (entered_lines inputs)
  entered-fit k d within =
      let count = length-map-range_with_len (lines_if_entered inputs) 0 (length inputs.app.uses) in
      let known : k < length inputs.app.uses = omega (arith, count) in
      subst (λ (lines : List Line). All Fits lines)
      (sym (get_or-map-range_with_len (lines_if_entered inputs) 0 (length inputs.app.uses) k k d known
      (omega arith))) (if-entered-fit k known)

  -- Those of the use cases that rows enter are among all.
  pub entered-same : All (HasSameLines (entered_lines inputs) (all_lines inputs)) inputs.switches
  entered-same =
      all_from_places (HasSameLines (entered_lines inputs) (all_lines inputs)) inputs.switches
      (λ place row at.
      let u = row.to.0 in
      let has = has_place inputs.switches place row at in
      let known = all_has (λ (one : SwitchRow). one.to.0 < length inputs.app.uses) inputs.switches row
      accepted.switches.known has in
      let entered = any_from_passes (λ (one : SwitchRow). one.to.0 == u) inputs.switches row has
      (eq-eqb u u refl) in
      let own : lines_if_entered inputs u ≡ lines_of inputs u = rw entered refl in
      get_or-map-range_with_len (lines_if_entered inputs) 0 (length inputs.app.uses) u u [] known
      (omega arith) ∙ (own ∙ sym (line-at inputs accepted u known)))

  -- No switch has a long lag.
  short : (u : ℕ) → u < length inputs.app.uses → (one : Granted) (side : Side)
      → Contains (granted_in inputs.app (groups_of inputs.app) inputs.plan u) one
      → path_delay inputs.chip.links (grant_on one side).path ≤ max_path_delay
  short u known one side has =
      (shape_in_range inputs.chip inputs.app accepted.design.chip_is accepted.design.app_is one
      (is_reserved inputs.chip inputs.app inputs.plan accepted.design u known one has)
      side).most_links

  pub lag-short : (u v : ℕ) → u < length inputs.app.uses
      → lag_of inputs.chip inputs.app (groups_of inputs.app) inputs.plan u v ≤ max_path_delay
  lag-short u v known =
      let groups = groups_of inputs.app in
      let all = granted_in inputs.app groups inputs.plan u in
      let delays = λ (one : Granted). path_delay inputs.chip.links one.fwd.path
      ∷ path_delay inputs.chip.links one.back.path ∷ [] in
      greatest-below (delays_in inputs.chip (changing groups u v all)) max_path_delay (λ x has.
      let (one, is_in, here) = flat_map-Contains delays (changing groups u v all) x has in
      let (given, goes) = filter-Contains
      (λ (other : Granted). not (is_kept groups u v other.conn.0)) all one is_in in
      let fwd = short u known one Fwd given in
      let back = short u known one Back given in
      elim (Contains-cases (path_delay inputs.chip.links one.fwd.path)
      (path_delay inputs.chip.links one.back.path ∷ []) x here) [
        | inl same ↦ omega arith
        | inr later ↦ elim (Contains-cases (path_delay inputs.chip.links one.back.path) [] x later) [
          | inl same ↦ omega arith
          | inr none ↦ Contains-nil none
        ]
      ])

  -- The spans of the plan serve.
  pub planned-spans : ((u v : ℕ) → u < length (groups_of inputs.app).uses
      → v < length (groups_of inputs.app).uses → (span_of (run_of inputs).spans u v).0
      ≡ lag_of inputs.chip inputs.app (groups_of inputs.app) inputs.plan u v)
      → AreSpansFor inputs (run_of inputs).spans
  planned-spans lags =
      let size = length-groups_of inputs.app in
      record {
        uses = spans-are;
        lags = λ u v from to. rw (lags u v from to) (lag-short u v (omega (arith, size, from)));
        planned = λ some. refl;
      }

  -- What events and sessions are made from.
  module _ (groups : GroupsData) (spans : SpanData) (all : List (List Line))
      (groups_are : groups ≡ groups_of inputs.app) (spans_are : AreSpansFor inputs spans)
      (all_are : all ≡ entered_lines inputs) where
    setting-of : IsSetting groups spans all
    setting-of = record {
      spans_are = rw groups_are spans_are.uses;
      lines_are = rw (groups_are, all_are) entered-are;
    }

    pub task-of : (words : List WordRow) (starts : List ℕ) (cycles : ℕ) → words ≡ inputs.words
        → starts ≡ map (λ c. length (values_of inputs.words c))
        (range_with_len 0 (length inputs.app.connections))
        → cycles ≡ inputs.cycles → IsTask groups spans all words starts cycles
    task-of words starts cycles words_are starts_are cycles_are =
        let count : length starts ≡ length inputs.app.connections =
        ap (λ (list : List ℕ). length list) starts_are
        ∙ length-map-range_with_len (λ c. length (values_of inputs.words c)) 0
        (length inputs.app.connections) in
        let fit = entered-fit in
        record {
          setting = setting-of;
          lags = rw groups_are spans_are.lags;
          few = rw words_are accepted.words.few;
          order = rw words_are accepted.words.order;
          connections = rw count accepted.design.app_is.connections;
          starts_are = rw (words_are, count) starts_are;
          known = rw (count, all_are) (λ k d within i e inside. (fit k d within i e inside).0);
          short = rw cycles_are accepted.cycles;
        }
