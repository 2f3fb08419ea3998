-- Cycles in which no row of a trace falls: no word is offered, no later session goes, and no switch does
-- anything.
use Rattle.std.proofs.Common.{◌≡◌, ◌<◌, ◌∙◌, ℕ, All, Bool, true, Contains, List, [], ap, arith}
use Rattle.std.proofs.Common.{filter, map, subst, ◌==◌, nat_lt, eq-eqb, eqb-true, lt-ltb}
use Rattle.std.proofs.lemmas.Bool.{false_from_ne_true}
use Rattle.aeth_base.proofs.Filters.{filter-all_fail}
use Rattle.aeth_base.proofs.Members.{Contains-filter, Contains-map, Contains-nil}
use Rattle.aeth_base.proofs.Members.{Contains-slice_get, filter-Contains, map-Contains}
use Rattle.aeth_tables.proofs.ListLaws.{all_from_places, all_has}
use Rattle.aeth_trace.specs.declared.words.WordRow.{WordRow}
use Rattle.aeth_report.specs.Sessions.{Switch}
use Rattle.aeth_accepted.specs.Inputs.{Inputs, run_of}
use Rattle.aeth_schedule.specs.{Switching.later_switches, Windows.IsInWindow, Windows.window_by}
use Rattle.aeth_schedule.specs.{Windows.windows_over, declared.windows.Window.Window}
use Rattle.aeth_stimuli.specs.Stimuli.{Offer, offer_of, stimuli_of}
use Rattle.aeth_running.specs.{Idle.FallsOn, Network.offers_in}

-- A list none of whose items passes a test keeps none, and the other way round.
pub none-kept : {X : Type 0} (test : X → Bool) (xs : List X)
    → ((x : X) → Contains xs x → test x ≡ true → ⊥) → filter test xs ≡ []
none-kept test xs none =
    filter-all_fail test xs (λ x has. false_from_ne_true (test x) (none x has))

pub kept-none : {X : Type 0} (test : X → Bool) (xs : List X) → filter test xs ≡ [] → (x : X)
    → Contains xs x → test x ≡ true → ⊥
kept-none {X} test xs none x has passes =
    Contains-nil (subst (λ (kept : List X). Contains kept x) none
    (Contains-filter test xs x has passes))

module _ (inputs : Inputs) (t : ℕ) (early : t < inputs.cycles) where
  abbrev offers : List Offer
  offers = map offer_of (filter (λ row. nat_lt row.cycle inputs.cycles) inputs.words)

  -- No word is offered where none falls on the cycle.
  pub no-offers : ((row : WordRow) → Contains inputs.words row → row.cycle ≡ t → ⊥)
      → offers_in (stimuli_of inputs) t ≡ []
  no-offers none = none-kept (λ (offer : Offer). offer.cycle == t) offers (λ offer has now.
      let within = filter (λ (row : WordRow). nat_lt row.cycle inputs.cycles) inputs.words in
      let (row, is, kept) = map-Contains offer_of within offer has in
      let listed = (filter-Contains (λ (row : WordRow). nat_lt row.cycle inputs.cycles) inputs.words row
      kept).0 in
      none row listed (ap (λ (one : Offer). one.cycle) is ∙ eqb-true offer.cycle t now))

  pub no-words : offers_in (stimuli_of inputs) t ≡ [] → (row : WordRow) → Contains inputs.words row
      → row.cycle ≡ t → ⊥
  no-words none row has now =
      let within = filter (λ (row : WordRow). nat_lt row.cycle inputs.cycles) inputs.words in
      kept-none (λ (offer : Offer). offer.cycle == t) offers none (offer_of row)
      (Contains-map offer_of within row
      (Contains-filter (λ (row : WordRow). nat_lt row.cycle inputs.cycles) inputs.words row has
      (lt-ltb row.cycle inputs.cycles (omega arith))))
      (eq-eqb row.cycle t now)

  -- A cycle is in no window where no switch falls on it.
  pub no-windows : ((switch : Switch) → Contains (later_switches inputs.switches) switch
      → FallsOn (run_of inputs).spans switch t → ⊥)
      → All (λ window. IsInWindow window t → ⊥)
      (windows_over (run_of inputs).spans inputs.switches)
  no-windows none =
      let spans = (run_of inputs).spans in
      let windows = windows_over spans inputs.switches in
      all_from_places (λ (window : Window). IsInWindow window t → ⊥) windows (λ place window at.
      let (switch, is, has) = map-Contains (window_by spans) (later_switches inputs.switches) window
      (Contains-slice_get windows place window at) in
      subst (λ (one : Window). IsInWindow one t → ⊥) is (none switch has))

  pub no-switches : All (λ window. IsInWindow window t → ⊥)
      (windows_over (run_of inputs).spans inputs.switches)
      → (switch : Switch) → Contains (later_switches inputs.switches) switch
      → FallsOn (run_of inputs).spans switch t → ⊥
  no-switches none switch has =
      let spans = (run_of inputs).spans in
      all_has (λ (window : Window). IsInWindow window t → ⊥) (windows_over spans inputs.switches)
      (window_by spans switch) none
      (Contains-map (window_by spans) (later_switches inputs.switches) switch has)
