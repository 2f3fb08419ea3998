-- Sessions that go behind cycle 0 are those that switches open.
use Rattle.std.proofs.Common.{◌≡◌, ◌<◌, ℕ, Contains, List, [], ◌∷◌, Some, None, ap, arith, inl, inr}
use Rattle.std.proofs.Common.{map, sym, ◌==◌, nat_lt, eqb-true}
use Rattle.std.proofs.lemmas.List.Elements.{Contains-append_cases}
use Rattle.aeth_base.proofs.Members.{Contains-here, Contains-nil, Contains-there, filter-Contains}
use Rattle.aeth_base.proofs.Members.{map-Contains}
use Rattle.aeth_group.specs.Members.{groups_of}
use Rattle.aeth_trace.specs.declared.switches.SwitchRow.{SwitchRow}
use Rattle.aeth_report.specs.Sessions.{Switch, go_by}
use Rattle.aeth_accepted.specs.Inputs.{Inputs, run_of}
use Rattle.aeth_schedule.specs.{SessionStarts.session_start_by, SessionStarts.session_starts_behind}
use Rattle.aeth_schedule.specs.{SessionStarts.session_starts_from, SessionStarts.session_starts_of}
use Rattle.aeth_schedule.specs.{Lines.all_lines, Lines.changed_lines, Lines.lines_at}
use Rattle.aeth_schedule.specs.{Switching.later_switches, Switching.switches_from, Windows.Writes}
use Rattle.aeth_schedule.specs.{declared.session_start.SessionStart.SessionStart}
use Rattle.aeth_stimuli.specs.Stimuli.{stimuli_of}
use Rattle.aeth_running.proofs.StillRows.{none-kept}
use Rattle.aeth_running.specs.{Idle.FallsOn, Network.session_starts_in}

module _ (inputs : Inputs) where
  abbrev behind : ℕ → List SwitchRow → List SessionStart
  behind = session_starts_behind (groups_of inputs.app) (run_of inputs).spans (all_lines inputs)
      inputs.words
      inputs.cycles

  -- A session goes as one of these switches opens it.
  record IsOpened (switches : List Switch) (session_start : SessionStart) : Type 0 where
    switch : Switch
    has : Contains switches switch
    goes : session_start.channel_state.go ≡ go_by (run_of inputs).spans switch

  opened-behind : (u : ℕ) (rows : List SwitchRow) (session_start : SessionStart)
      → Contains (behind u rows) session_start
      → IsOpened (switches_from u rows) session_start
  opened-behind u [] session_start has = Contains-nil has
  opened-behind u (row ∷ rows) session_start has =
      let v = row.to.0 in
      let switch : Switch = record { leaves = u; row = row } in
      let by = session_start_by (groups_of inputs.app) (run_of inputs).spans (all_lines inputs)
      inputs.words
      inputs.cycles (Some switch) v rows in
      let lines = changed_lines (groups_of inputs.app) u v (lines_at (all_lines inputs) v) in
      elim (Contains-append_cases (map by lines) (behind v rows) session_start has) [
        | inl first ↦
            let (line, is, is_in) = map-Contains by lines session_start first in
            record {
              switch = switch;
              has = Contains-here switch (switches_from v rows);
              goes = sym (ap (λ (one : SessionStart). one.channel_state.go) is);
            }
        | inr later ↦
            let rest = opened-behind v rows session_start later in
            record {
              switch = rest.switch;
              has = Contains-there switch (switches_from v rows) rest.switch rest.has;
              goes = rest.goes;
            }
      ]

  opened-from : (rows : List SwitchRow) (session_start : SessionStart)
      → 0 < session_start.channel_state.go
      → Contains (session_starts_from (groups_of inputs.app) (run_of inputs).spans
      (all_lines inputs)
      inputs.words inputs.cycles rows) session_start → IsOpened (later_switches rows) session_start
  opened-from [] session_start late has = Contains-nil has
  opened-from (row ∷ rows) session_start late has =
      let u = row.to.0 in
      let by = session_start_by (groups_of inputs.app) (run_of inputs).spans (all_lines inputs)
      inputs.words
      inputs.cycles None u rows in
      let lines = lines_at (all_lines inputs) u in
      elim (Contains-append_cases (map by lines) (behind u rows) session_start has) [
        | inl first ↦
            let (line, is, is_in) = map-Contains by lines session_start first in
            let go : 0 ≡ session_start.channel_state.go =
            ap (λ (one : SessionStart). one.channel_state.go) is in
            absurd (omega arith)
        | inr later ↦ opened-behind u rows session_start later
      ]

  -- So none goes in a later cycle on which no switch falls.
  pub no-session_starts : (t : ℕ)
      → ((switch : Switch) → Contains (later_switches inputs.switches) switch
      → FallsOn (run_of inputs).spans switch t → ⊥)
      → 0 < t → session_starts_in (stimuli_of inputs) t ≡ []
  unfolding session_starts_of
  no-session_starts t none late =
      none-kept (λ (session_start : SessionStart). session_start.channel_state.go == t)
      (session_starts_of inputs)
      (λ session_start has now.
      let is = eqb-true session_start.channel_state.go t now in
      let all = session_starts_from (groups_of inputs.app) (run_of inputs).spans (all_lines inputs)
      inputs.words
      inputs.cycles inputs.switches in
      let listed =
      (filter-Contains (λ (one : SessionStart). nat_lt one.channel_state.go inputs.cycles) all
      session_start has).0
      in
      let opened = opened-from inputs.switches session_start (omega arith) listed in
      let goes = opened.goes in
      none opened.switch opened.has (Writes (omega arith) (omega arith)))
