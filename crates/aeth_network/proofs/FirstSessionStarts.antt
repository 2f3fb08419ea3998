-- The sessions of a run before it begins: their words are there, and their shapes have due times.
use Rattle.std.proofs.Common.{◌≤◌, ◌<◌, ℕ, zero, suc, List, [], ◌∷◌, arith, get_or, inl, inr}
use Rattle.std.proofs.Common.{length, map, min, nat_lt, not, refl, Option, Some, None, subst, sym}
use Rattle.std.proofs.lemmas.Bool.{cases_lt}
use Rattle.std.proofs.lemmas.List.{get_or_past}
use Rattle.std.proofs.lemmas.List.Elements.{All-append, All-cons, All-filter, All-head, All-map}
use Rattle.std.proofs.lemmas.List.Elements.{All-nil, All-tail}
use Rattle.std.proofs.lemmas.List.FromFn.{get_or-map-range_with_len, length-map-range_with_len}
use Rattle.std.specs.List.{All}
use Rattle.aeth_base.specs.declared.ids.{Channel.Channel, UseId.UseId}
use Rattle.aeth_server.specs.{ChannelShape.IsShapeInRange, declared.shape.ChannelShape.ChannelShape}
use Rattle.aeth_group.specs.Members.{GroupsData, groups_of, is_kept}
use Rattle.aeth_ni.specs.declared.row.ChannelRow.{ChannelRow}
use Rattle.aeth_trace.specs.{Spans.SpanData, Words.words_on, declared.switches.SwitchRow.SwitchRow}
use Rattle.aeth_trace.specs.{declared.words.WordRow.WordRow}
use Rattle.aeth_trace.proofs.OrderLemmas.{until_few}
use Rattle.aeth_report.specs.{Flows.close_at, Sessions.Switch, Sessions.go_of}
use Rattle.aeth_report.specs.{declared.session.Close.Close}
use Rattle.aeth_tables.{specs.Tables.tables_of, proofs.PromiseLaws.keep_promises}
use Rattle.aeth_accepted.specs.Inputs.{AreAccepted, Inputs, run_of}
use Rattle.aeth_schedule.specs.SessionStarts.{session_start_by, session_start_with}
use Rattle.aeth_schedule.specs.SessionStarts.{session_starts_behind, session_starts_from}
use Rattle.aeth_schedule.specs.SessionStarts.{session_starts_of, session_by}
use Rattle.aeth_schedule.specs.Lines.{all_lines, changed_lines, line_with, lines_at, lines_of}
use Rattle.aeth_schedule.specs.Lines.{lines_with}
use Rattle.aeth_schedule.specs.Values.{before_of}
use Rattle.aeth_schedule.specs.declared.{session_start.SessionStart.SessionStart, lines.Line.Line}
use Rattle.aeth_network.specs.Records.{IsFresh}

-- What holds of the sessions of all lines holds of those that rows open.
module _ (P : SessionStart → Type 0) (groups : GroupsData) (spans : SpanData)
    (all : List (List Line))
    (words : List WordRow) (cycles : ℕ)
    (holds : (u : ℕ) → All (λ line. (go : ℕ) (close : Close)
    → P (session_start_with words cycles line go close)) (lines_at all u)) where
  All-by : (opening : Option Switch) (u : ℕ) (rows : List SwitchRow) (lines : List Line)
      → All (λ line. (go : ℕ) (close : Close) → P (session_start_with words cycles line go close))
      lines
      → All P (map (session_start_by groups spans all words cycles opening u rows) lines)
  All-by opening u rows lines each =
      All-map P (session_start_by groups spans all words cycles opening u rows) lines
      (λ k d within. each k d within (go_of spans opening)
      (close_at cycles (session_by groups spans None u rows (get_or lines k d).row.channel.conn.0)))

  All-behind : (u : ℕ) (rows : List SwitchRow)
      → All P (session_starts_behind groups spans all words cycles u rows)
  All-behind u [] = All-nil P
  All-behind u (row ∷ rows) =
      let lines = changed_lines groups u row.to.0 (lines_at all row.to.0) in
      All-append P
      (map (session_start_by groups spans all words cycles (Some (record { leaves = u; row = row }))
      row.to.0 rows) lines) (session_starts_behind groups spans all words cycles row.to.0 rows)
      (All-by (Some (record { leaves = u; row = row })) row.to.0 rows lines
      (All-filter (λ line. not (is_kept groups u row.to.0 line.row.channel.conn.0))
      (λ line. (go : ℕ) (close : Close) → P (session_start_with words cycles line go close))
      (lines_at all row.to.0) (holds row.to.0)))
      (All-behind row.to.0 rows)

  pub All-from : (rows : List SwitchRow)
      → All P (session_starts_from groups spans all words cycles rows)
  All-from [] = All-nil P
  All-from (first ∷ rows) =
      All-append P
      (map (session_start_by groups spans all words cycles None first.to.0 rows)
      (lines_at all first.to.0))
      (session_starts_behind groups spans all words cycles first.to.0 rows)
      (All-by None first.to.0 rows (lines_at all first.to.0) (holds first.to.0))
      (All-behind first.to.0 rows)

-- The lines of tables have their shapes.
lines-shapes : (P : ChannelShape → Type 0) (rows : List ChannelRow) (shapes : List ChannelShape)
    → All P shapes → All (λ line. P line.shape) (lines_with rows shapes)
lines-shapes P [] shapes all = All-nil (λ (line : Line). P line.shape)
lines-shapes P (a ∷ []) shapes all = All-nil (λ (line : Line). P line.shape)
lines-shapes P (a ∷ b ∷ rows) [] all = All-nil (λ (line : Line). P line.shape)
lines-shapes P (a ∷ b ∷ rows) (x ∷ []) all = All-nil (λ (line : Line). P line.shape)
lines-shapes P (a ∷ b ∷ rows) (x ∷ y ∷ shapes) all =
    let Q = λ (line : Line). P line.shape in
    let tail = All-tail P x (y ∷ shapes) all in
    All-cons Q (line_with a x b) (line_with b y a ∷ lines_with rows shapes)
    (All-head P x (y ∷ shapes) all)
    (All-cons Q (line_with b y a) (lines_with rows shapes) (All-head P y shapes tail)
    (lines-shapes P rows shapes (All-tail P y shapes tail)))

-- No more words of a channel are offered before a cycle than it has.
before-few : (words : List WordRow) (channel : Channel) (t : ℕ)
    → before_of words channel t ≤ length (words_on words channel)
before-few words channel zero = omega arith
before-few words channel (suc t) =
    until_few (λ (row : WordRow). row.cycle) t (words_on words channel)

-- A session of a line whose shape has due times.
fresh-with : (words : List WordRow) (cycles : ℕ) (line : Line) → IsShapeInRange line.shape
    → (go : ℕ) (close : Close) → IsFresh words (session_start_with words cycles line go close)
fresh-with words cycles line shape go close =
    let before = before-few words line.row.channel go in
    let behind = before-few words line.row.channel (min close.until cycles) in
    record { shape = shape; there = omega arith; none = refl }

module _ (inputs : Inputs) (accepted : AreAccepted inputs) where
  lines-ranged : (u : ℕ) → u < length inputs.app.uses
      → All (λ line. IsShapeInRange line.shape) (lines_of inputs u)
  lines-ranged u known =
      let number : UseId = record { 0 = u } in
      let tables = tables_of inputs.chip inputs.app (groups_of inputs.app) inputs.plan number in
      lines-shapes IsShapeInRange tables.rows tables.shapes
      (keep_promises inputs.chip inputs.app inputs.plan accepted.design number known).shapes

  all-ranged : (u : ℕ) → All (λ line. IsShapeInRange line.shape) (lines_at (all_lines inputs) u)
  all-ranged u =
      elim (cases_lt u (length inputs.app.uses)) [
        | inl known ↦
            subst (All (λ (line : Line). IsShapeInRange line.shape))
            (sym (get_or-map-range_with_len (lines_of inputs) 0 (length inputs.app.uses) u u []
            known (omega arith))) (lines-ranged u known)
        | inr past ↦
            let count = length-map-range_with_len (lines_of inputs) 0 (length inputs.app.uses) in
            subst (All (λ (line : Line). IsShapeInRange line.shape))
            (sym (get_or_past (all_lines inputs) u [] (omega arith)))
            (All-nil (λ (line : Line). IsShapeInRange line.shape))
      ]

  -- The sessions of a run.
  pub fresh-session_starts : All (IsFresh inputs.words) (session_starts_of inputs)
  unfolding session_starts_of
  fresh-session_starts =
      let run = run_of inputs in
      All-filter (λ (one : SessionStart). nat_lt one.channel_state.go inputs.cycles)
      (IsFresh inputs.words)
      (session_starts_from (groups_of inputs.app) run.spans (all_lines inputs) inputs.words
      inputs.cycles
      inputs.switches)
      (All-from (IsFresh inputs.words) (groups_of inputs.app) run.spans (all_lines inputs)
      inputs.words inputs.cycles
      (λ u k d within. fresh-with inputs.words inputs.cycles
      (get_or (lines_at (all_lines inputs) u) k d) (all-ranged u k d within))
      inputs.switches)
