-- Each event of a run falls in the window of its switch.
use Rattle.std.proofs.Common.{◌≡◌, ◌<◌, ℕ, All, Contains, List, [], ◌∷◌, arith, filter, inl, inr}
use Rattle.std.proofs.Common.{length, map, refl, subst, sym, ◌==◌, eqb-true}
use Rattle.std.proofs.lemmas.{Bool.cases_Bool, List.Elements.All-head, List.Elements.All-tail}
use Rattle.std.proofs.lemmas.{Option.slice_get_within}
use Rattle.std.specs.List.{zip}
use Rattle.aeth_base.proofs.Members.{Contains-cases, Contains-nil}
use Rattle.aeth_group.{specs.Members.groups_of, proofs.MemberLemmas.length-groups_of}
use Rattle.aeth_ni.proofs.ProgramLemmas.{length-program_of}
use Rattle.aeth_trace.specs.declared.switches.SwitchRow.{SwitchRow}
use Rattle.aeth_report.specs.Sessions.{Switch, close_by}
use Rattle.aeth_reconf.specs.Rows.{rows_closing, rows_opening}
use Rattle.aeth_components.specs.declared.event.Event.{Event}
use Rattle.aeth_accepted.specs.Inputs.{AreAccepted, Inputs, design_of, row_at, run_of}
use Rattle.aeth_accepted.proofs.SoundRuns.{AreSpans}
use Rattle.aeth_schedule.specs.Switching.{events_by, later_switches, switches_from, timed_of}
use Rattle.aeth_schedule.specs.Windows.{StopsChannels, Writes}
use Rattle.aeth_schedule.specs.declared.timed.Timed.{Timed}
use Rattle.aeth_stimuli.specs.{Stimuli.stimuli_of, Events.events_in}
use Rattle.aeth_stimuli.proofs.RunEvents.{caused, may}
use Rattle.aeth_stimuli.proofs.SwitchEvents.{IsChange, IsFinish, IsHalt, event-by}
use Rattle.aeth_running.{proofs.StillRows.none-kept, specs.Idle.FallsOn}

-- A switch out of rows is between known use cases.
known-switch : (uses u : ℕ) (rows : List SwitchRow) → u < uses
    → All (λ row. row.to.0 < uses) rows → (switch : Switch) → Contains (switches_from u rows) switch
    → (switch.leaves < uses) × (switch.row.to.0 < uses)
known-switch uses u [] left fit switch has = Contains-nil has
known-switch uses u (row ∷ rows) left fit switch has =
    let fits = λ (one : SwitchRow). one.to.0 < uses in
    let to = All-head fits row rows fit in
    let first : Switch = record { leaves = u; row = row } in
    elim (Contains-cases first (switches_from row.to.0 rows) switch has) [
      | inl same ↦
          subst (λ (one : Switch). (one.leaves < uses) × (one.row.to.0 < uses)) same (left, to)
      | inr later ↦ known-switch uses row.to.0 rows to (All-tail fits row rows fit) switch later
    ]

known-later : (uses : ℕ) (rows : List SwitchRow) → All (λ row. row.to.0 < uses) rows
    → (switch : Switch) → Contains (later_switches rows) switch
    → (switch.leaves < uses) × (switch.row.to.0 < uses)
known-later uses [] fit switch has = Contains-nil has
known-later uses (row ∷ rows) fit switch has =
    let fits = λ (one : SwitchRow). one.to.0 < uses in
    known-switch uses row.to.0 rows (All-head fits row rows fit) (All-tail fits row rows fit) switch has

-- A filter over cycles and events side by side.
zip-none : (t : ℕ) (xs : List Timed) → filter (λ (one : Timed). one.cycle == t) xs ≡ []
    → map (λ (timed : ℕ × Event). timed.1) (filter (λ (timed : ℕ × Event). timed.0 == t)
    (zip (map (λ (one : Timed). one.cycle) xs) (map (λ (one : Timed). one.event) xs))) ≡ []
zip-none t [] none = refl
zip-none t (x ∷ xs) none = elim (cases_Bool (x.cycle == t)) [
  | inl here ↦ absurd (cc (rw here at none))
  | inr other ↦ rw other (zip-none t xs (rw other at none))
]

module _ (inputs : Inputs) (accepted : AreAccepted inputs) (spans : AreSpans inputs accepted) where
  -- An event of a switch falls in its window.
  falls : (switch : Switch) → Contains (later_switches inputs.switches) switch → (one : Timed)
      → Contains (events_by inputs switch) one → FallsOn (run_of inputs).spans switch one.cycle
  falls switch is_switch one has =
      let groups = groups_of inputs.app in
      let row_of = row_at (design_of inputs) in
      let u = switch.leaves in
      let v = switch.row.to.0 in
      let closing = rows_closing groups row_of u v in
      let opening = rows_opening groups row_of u v in
      let uses = length-groups_of inputs.app in
      let (left, entered) = known-later (length inputs.app.uses) inputs.switches accepted.switches.known
      switch is_switch in
      let counted = (may inputs accepted spans).counted u v (omega arith) (omega arith) in
      elim (event-by (close_by (run_of inputs).spans switch) closing opening one has) [
        | IsHalt row is_in time event ↦ StopsChannels (sym time)
        | IsFinish row is_in time event ↦ Writes (omega arith) (omega arith)
        | IsChange change ↦
            let time = change.cycle_is in
            let program = length-program_of closing opening in
            let inside = slice_get_within _ change.k change.write change.at in
            Writes (omega arith) (omega arith)
      ]

  -- So none is done in a cycle on which no switch falls.
  pub no-events : (t : ℕ) → ((switch : Switch) → Contains (later_switches inputs.switches) switch
      → FallsOn (run_of inputs).spans switch t → ⊥) → events_in (stimuli_of inputs) t ≡ []
  no-events t none = zip-none t (timed_of inputs) (none-kept (λ (one : Timed). one.cycle == t)
      (timed_of inputs) (λ one has now.
      let (switch, is_switch, is_in) = caused inputs accepted one has in
      none switch is_switch (subst (FallsOn (run_of inputs).spans switch) (eqb-true one.cycle t now)
      (falls switch is_switch one is_in))))
