-- A run has few sessions: a counter of 32 bits can count them.
use Rattle.std.proofs.Common.{◌≡◌, ◌≤◌, ◌<◌, ◌*◌, ◌^◌, ℕ, List, [], ◌∷◌, Some, None, ap, arith}
use Rattle.std.proofs.Common.{filter, flat_map, inl, inr, length, map, nat_lt, not, refl}
use Rattle.std.proofs.Common.{length-append}
use Rattle.std.proofs.lemmas.Bool.{cases_lt}
use Rattle.std.proofs.lemmas.List.{get_or_past, length-map}
use Rattle.std.proofs.lemmas.List.FromFn.{get_or-map-range_with_len, length-map-range_with_len}
use Rattle.std.specs.List.{range_with_len}
use Rattle.aeth_app.specs.Limits.{max_connections}
use Rattle.aeth_base.{specs.declared.ids.UseId.UseId, proofs.Filters.filter-few}
use Rattle.aeth_server.specs.declared.shape.ChannelShape.{ChannelShape}
use Rattle.aeth_group.specs.Members.{GroupsData, groups_of, has_at, is_kept}
use Rattle.aeth_group.proofs.MemberLemmas.{connections-groups_of}
use Rattle.aeth_ni.specs.declared.row.ChannelRow.{ChannelRow}
use Rattle.aeth_trace.specs.Spans.{SpanData}
use Rattle.aeth_trace.specs.declared.{switches.SwitchRow.SwitchRow, words.WordRow.WordRow}
use Rattle.aeth_tables.specs.{Granted.channels_with, Tables.tables_of}
use Rattle.aeth_tables.proofs.PromiseLaws.{keep_promises}
use Rattle.aeth_accepted.specs.Inputs.{AreAccepted, Inputs, run_of}
use Rattle.aeth_schedule.specs.SessionStarts.{session_start_by, session_starts_behind}
use Rattle.aeth_schedule.specs.SessionStarts.{session_starts_from, session_starts_of}
use Rattle.aeth_schedule.specs.Lines.{all_lines, changed_lines, lines_at, lines_of, lines_with}
use Rattle.aeth_schedule.specs.declared.{session_start.SessionStart.SessionStart, lines.Line.Line}

-- Two channels a connection.
pub over-two : (cs : List ℕ) → length (flat_map channels_with cs) ≡ 2 * length cs
over-two [] = refl
over-two (c ∷ cs) = let rest = over-two cs in omega arith

-- No more lines than rows.
lines-few : (rows : List ChannelRow) (shapes : List ChannelShape)
    → length (lines_with rows shapes) ≤ length rows
lines-few [] shapes = omega arith
lines-few (a ∷ []) shapes = omega arith
lines-few (a ∷ b ∷ rows) [] = omega arith
lines-few (a ∷ b ∷ rows) (x ∷ []) = omega arith
lines-few (a ∷ b ∷ rows) (x ∷ y ∷ shapes) = let rest = lines-few rows shapes in omega arith

-- Each row of switches opens no more sessions than there are lines.
module _ (groups : GroupsData) (spans : SpanData) (all : List (List Line)) (words : List WordRow)
    (cycles : ℕ) (few : (u : ℕ) → length (lines_at all u) ≤ 2 * max_connections) where
  behind-few : (u : ℕ) (rows : List SwitchRow)
      → length (session_starts_behind groups spans all words cycles u rows)
      ≤ 2 * max_connections * length rows
  behind-few u [] = omega arith
  behind-few u (row ∷ rows) =
      let lines = lines_at all row.to.0 in
      let changed = changed_lines groups u row.to.0 lines in
      let by = session_start_by groups spans all words cycles
      (Some (record { leaves = u; row = row })) row.to.0 rows in
      let kept = filter-few (λ (line : Line).
      not (is_kept groups u row.to.0 line.row.channel.conn.0)) lines in
      let here = few row.to.0 in
      let made = length-map changed by in
      let split = length-append (map by changed)
      (session_starts_behind groups spans all words cycles row.to.0 rows) in
      let rest = behind-few row.to.0 rows in
      omega arith

  from-few : (rows : List SwitchRow)
      → length (session_starts_from groups spans all words cycles rows)
      ≤ 2 * max_connections * length rows
  from-few [] = omega arith
  from-few (first ∷ rows) =
      let lines = lines_at all first.to.0 in
      let by = session_start_by groups spans all words cycles None first.to.0 rows in
      let here = few first.to.0 in
      let made = length-map lines by in
      let split = length-append (map by lines)
      (session_starts_behind groups spans all words cycles first.to.0 rows) in
      let rest = behind-few first.to.0 rows in
      omega arith

module _ (inputs : Inputs) (accepted : AreAccepted inputs) where
  -- A use case has no more channels than there are.
  use-few : (u : ℕ) → u < length inputs.app.uses
      → length (lines_of inputs u) ≤ 2 * max_connections
  use-few u known =
      let number : UseId = record { 0 = u } in
      let groups = groups_of inputs.app in
      let tables = tables_of inputs.chip inputs.app groups inputs.plan number in
      let lines = lines-few tables.rows tables.shapes in
      let named = length-map tables.rows (λ (row : ChannelRow). row.channel) in
      let channels = ap length
      (keep_promises inputs.chip inputs.app inputs.plan accepted.design number known).channels in
      let range = range_with_len 0 groups.connections in
      let used = tables.uses.0 in
      let two = over-two (filter (has_at groups used) range) in
      let fewer = filter-few (has_at groups used) range in
      let size = length-map range (λ (k : ℕ). k) in
      let count = length-map-range_with_len (λ (k : ℕ). k) 0 groups.connections in
      let same = connections-groups_of inputs.app in
      let most = accepted.design.app_is.connections in
      omega arith

  all-few : (u : ℕ) → length (lines_at (all_lines inputs) u) ≤ 2 * max_connections
  all-few u =
      elim (cases_lt u (length inputs.app.uses)) [
        | inl known ↦
            rw (get_or-map-range_with_len (lines_of inputs) 0 (length inputs.app.uses) u u []
            known (omega arith)) (use-few u known)
        | inr past ↦
            let count = length-map-range_with_len (lines_of inputs) 0 (length inputs.app.uses) in
            rw (get_or_past (all_lines inputs) u [] (omega arith)) (omega arith)
      ]

  -- The sessions of a run.
  pub session_starts-few : length (session_starts_of inputs) < 2 ^ 32
  unfolding session_starts_of
  session_starts-few =
      let all = session_starts_from (groups_of inputs.app) (run_of inputs).spans (all_lines inputs)
      inputs.words inputs.cycles inputs.switches in
      let within =
      filter-few (λ (one : SessionStart). nat_lt one.channel_state.go inputs.cycles) all in
      let most = from-few (groups_of inputs.app) (run_of inputs).spans (all_lines inputs)
      inputs.words inputs.cycles all-few inputs.switches in
      let few = accepted.switches.few in
      omega arith
