-- The sessions of a run: what holds of all that lines give holds of each.
use Rattle.std.proofs.Common.{◌≡◌, ◌≤◌, ◌<◌, ◌++◌, ℕ, All, List, [], ◌∷◌, Option, Some, None}
use Rattle.std.proofs.Common.{length, map, not, nat_lt}
use Rattle.std.proofs.lemmas.List.Elements.{All-append, All-filter, All-head, All-map, All-nil}
use Rattle.std.proofs.lemmas.List.Elements.{All-tail, All-weaker}
use Rattle.aeth_group.specs.Members.{GroupsData, groups_of, is_kept}
use Rattle.aeth_trace.specs.{Spans.SpanData, declared.switches.SwitchRow.SwitchRow}
use Rattle.aeth_report.{specs.Sessions.Switch, proofs.Stays.switch_of}
use Rattle.aeth_accepted.specs.Inputs.{AreAccepted, Inputs, run_of}
use Rattle.aeth_schedule.specs.SessionStarts.{session_start_by, session_starts_behind}
use Rattle.aeth_schedule.specs.SessionStarts.{session_starts_from, session_starts_of}
use Rattle.aeth_schedule.specs.Lines.{all_lines, changed_lines, lines_at}
use Rattle.aeth_schedule.specs.declared.{session_start.SessionStart.SessionStart, lines.Line.Line}

module _ (inputs : Inputs) (accepted : AreAccepted inputs) where
  abbrev groups : GroupsData
  groups = groups_of inputs.app

  abbrev spans : SpanData
  spans = (run_of inputs).spans

  abbrev pub by : Option Switch → ℕ → List SwitchRow → Line → SessionStart
  by = session_start_by (groups_of inputs.app) (run_of inputs).spans (all_lines inputs) inputs.words
      inputs.cycles

  abbrev behind : ℕ → List SwitchRow → List SessionStart
  behind = session_starts_behind groups spans (all_lines inputs) inputs.words inputs.cycles

  abbrev Fits : SwitchRow → Type 0
  Fits row = row.to.0 < length inputs.app.uses

  module _ (Q : Line → Type 0) (P : SessionStart → Type 0)
      (lines : (u : ℕ) → u < length inputs.app.uses → All Q (lines_at (all_lines inputs) u))
      (gives : (opening : Option Switch) (u : ℕ) (rows : List SwitchRow) (line : Line) → Q line
      → P (by opening u rows line)) where
    -- Of the sessions of lines.
    of-lines : (opening : Option Switch) (u : ℕ) (rows : List SwitchRow) (list : List Line)
        → All Q list → All P (map (by opening u rows) list)
    of-lines opening u rows list all =
        All-map P (by opening u rows) list
        (All-weaker Q (λ line. P (by opening u rows line)) (gives opening u rows) list all)

    -- Of those that rows open.
    behind-all : (u : ℕ) (rows : List SwitchRow) → All Fits rows → All P (behind u rows)
    behind-all u [] fit = All-nil P
    behind-all u (row ∷ rows) fit =
        let v = row.to.0 in
        let opening = Some (switch_of u row) in
        let all = lines_at (all_lines inputs) v in
        let changed = changed_lines groups u v all in
        let kept = All-filter (λ line. not (is_kept groups u v line.row.channel.conn.0)) Q all
        (lines v (All-head Fits row rows fit)) in
        All-append P (map (by opening v rows) changed) (behind v rows)
        (of-lines opening v rows changed kept)
        (behind-all v rows (All-tail Fits row rows fit))

    from-all : (rows : List SwitchRow) → All Fits rows
        → All P (session_starts_from groups spans (all_lines inputs) inputs.words inputs.cycles
        rows)
    from-all [] fit = All-nil P
    from-all (row ∷ rows) fit =
        let u = row.to.0 in
        let all = lines_at (all_lines inputs) u in
        All-append P (map (by None u rows) all) (behind u rows)
        (of-lines None u rows all (lines u (All-head Fits row rows fit)))
        (behind-all u rows (All-tail Fits row rows fit))

    -- So of all of a run.
    pub session_starts-all : All P (session_starts_of inputs)
    unfolding session_starts_of
    session_starts-all =
        All-filter (λ one. nat_lt one.channel_state.go inputs.cycles) P
        (session_starts_from groups spans (all_lines inputs) inputs.words inputs.cycles
        inputs.switches)
        (from-all inputs.switches accepted.switches.known)
