-- The windows of accepted inputs begin one after the other, and what lies before the first that is
-- left, and behind the last that begins.
use Rattle.std.proofs.Common.{◌≡◌, ◌≤◌, ◌<◌, ◌∙◌, ℕ, All, List, [], ◌∷◌, Some, ap, arith, map, max}
use Rattle.std.proofs.Common.{slice_get, subst, sym}
use Rattle.std.proofs.lemmas.List.Elements.{All-cons, All-head, All-nil, All-tail}
use Rattle.std.specs.List.Sorted.{IsNonDecreasingBy}
use Rattle.aeth_base.proofs.Members.{All-slice_get}
use Rattle.aeth_trace.proofs.OrderLemmas.{first_least, later_rise, rise-cons}
use Rattle.aeth_trace.specs.{Spans.SpanData, declared.switches.SwitchRow.SwitchRow}
use Rattle.aeth_accepted.specs.Inputs.{Inputs, run_of}
use Rattle.aeth_schedule.specs.{Switching.switches_from, Windows.IsInWindow, Windows.StopsChannels}
use Rattle.aeth_schedule.specs.{Windows.StopsWords, Windows.Writes, Windows.window_by}
use Rattle.aeth_schedule.specs.{Windows.windows_over, declared.windows.Window.Window}
use Rattle.aeth_stimuli.specs.Stimuli.{Stimuli}
use Rattle.aeth_running.{proofs.Played.played-stimuli as first-stimuli, specs.Network.NetworkState}
use Rattle.aeth_network.{specs.Behind.passed, specs.Runs.IsNetworkOf, specs.Windows.AreAscending}
use Rattle.aeth_network.{specs.Windows.AreOver, proofs.Passed.passed-of}

-- When a window begins.
abbrev pub begin_of : Window → ℕ
begin_of window = window.until

-- A window begins with the first of its cycles, and ends with the last.
abbrev Begins : Window → Type 0
Begins window = (window.until ≤ window.stop) × (window.until ≤ window.fin)

within-from : (window : Window) (t : ℕ) → Begins window → IsInWindow window t → window.until ≤ t
within-from window t begins is =
    let stop = begins.0 in
    let fin = begins.1 in
    elim is [
      | StopsWords now ↦ omega arith
      | StopsChannels now ↦ omega arith
      | Writes low high ↦ omega arith
    ]

pub within-to : (window : Window) (t : ℕ) → IsInWindow window t
    → t ≤ max (max window.until window.stop) window.go
within-to window t is = elim is [
  | StopsWords now ↦ omega arith
  | StopsChannels now ↦ omega arith
  | Writes low high ↦ omega arith
]

module _ (spans : SpanData) where
  -- Rows that are not before a cycle have windows that don't begin before it.
  windows-least : (least u : ℕ) (rows : List SwitchRow) → All (λ row. least ≤ row.cycle) rows
      → All (λ window. least ≤ window.until) (map (window_by spans) (switches_from u rows))
  windows-least least u [] above = All-nil (λ (window : Window). least ≤ window.until)
  windows-least least u (row ∷ rows) above =
      All-cons (λ (window : Window). least ≤ window.until)
      (window_by spans (record { leaves = u; row = row }))
      (map (window_by spans) (switches_from row.to.0 rows))
      (All-head (λ (one : SwitchRow). least ≤ one.cycle) row rows above)
      (windows-least least row.to.0 rows
      (All-tail (λ (one : SwitchRow). least ≤ one.cycle) row rows above))

  -- Rows in order have windows in order.
  windows-rise : (u : ℕ) (rows : List SwitchRow) → IsNonDecreasingBy (λ row. row.cycle) rows
      → IsNonDecreasingBy begin_of (map (window_by spans) (switches_from u rows))
  windows-rise u [] rises = λ i j d le within. absurd (omega arith)
  windows-rise u (row ∷ rows) rises =
      rise-cons begin_of (window_by spans (record { leaves = u; row = row }))
      (map (window_by spans) (switches_from row.to.0 rows))
      (windows-least row.cycle row.to.0 rows
      (first_least (λ (one : SwitchRow). one.cycle) row rows rises))
      (windows-rise row.to.0 rows (later_rise (λ (one : SwitchRow). one.cycle) row rows rises))

  windows-begin : (u : ℕ) (rows : List SwitchRow)
      → All Begins (map (window_by spans) (switches_from u rows))
  windows-begin u [] = All-nil Begins
  windows-begin u (row ∷ rows) =
      All-cons Begins (window_by spans (record { leaves = u; row = row }))
      (map (window_by spans) (switches_from row.to.0 rows)) (omega arith, omega arith)
      (windows-begin row.to.0 rows)

  -- So do the switches behind the first row.
  windows-ascend : (rows : List SwitchRow) → IsNonDecreasingBy (λ row. row.cycle) rows
      → AreAscending (windows_over spans rows)
  windows-ascend [] rises = record {
    begins = All-nil Begins;
    order = λ i j d le within. absurd (omega arith);
  }
  windows-ascend (first ∷ rows) rises = record {
    begins = windows-begin first.to.0 rows;
    order = windows-rise first.to.0 rows
        (later_rise (λ (one : SwitchRow). one.cycle) first rows rises);
  }

-- The windows of a network of accepted inputs do.
pub given-ascend : (inputs : Inputs) (all : NetworkState) → IsNetworkOf inputs all
    → AreAscending all.stimuli.schedule.windows
given-ascend inputs all of =
    subst (λ (given : Stimuli). AreAscending given.schedule.windows)
    (sym (ap (λ (one : NetworkState). one.stimuli) of.is ∙ first-stimuli inputs all.routing all.time))
    (windows-ascend (run_of inputs).spans inputs.switches of.accepted.switches.order)

-- Windows that don't begin before a cycle have none before it.
pub begins-late : (windows : List Window) → AreAscending windows → (limit number t : ℕ)
    (window : Window) → passed begin_of limit windows ≤ number
    → slice_get windows number ≡ Some window → t < limit → IsInWindow window t → ⊥
begins-late windows ascend limit number t window past at less is =
    let begins = All-slice_get Begins windows number window ascend.begins at in
    let from = within-from window t begins is in
    let before = (passed-of begin_of limit windows number window ascend.order at).0 (omega arith) in
    omega arith

-- Windows that are over from a cycle on are so from a later one on.
pub over-later : (count time later : ℕ) (windows : List Window) → time ≤ later
    → AreOver count time windows → AreOver count later windows
over-later count time later windows le is = record {
  over = λ number t window less at since. is.over number t window less at (omega arith);
}

-- No windows are over from any cycle on.
pub over-none : (count time : ℕ) (windows : List Window) → count ≡ 0 → AreOver count time windows
over-none count time windows none = record {
  over = λ number t window less at since is. absurd (omega arith);
}
