-- The windows of switches, in the order in which a network comes to them.
--
--   AreAscending      windows that begin one after the other
--   AreOver      the first so many windows have no more cycles
-- This project's own.
use Rattle.std.proofs.Common.{◌≡◌, ◌≤◌, ◌<◌, ℕ, All, List, Some, slice_get}
use Rattle.std.specs.List.Sorted.{IsNonDecreasingBy}
use Rattle.aeth_schedule.specs.{Windows.IsInWindow, declared.windows.Window.Window}

-- Each window begins when words are stopped, and none begins before an earlier one.
pub record AreAscending (windows : List Window) : Type 0 where
  pub begins : All (λ window. (window.until ≤ window.stop) × (window.until ≤ window.fin)) windows
  pub order : IsNonDecreasingBy (λ window. window.until) windows

-- The first so many windows have no cycle from one on.
pub record AreOver (count time : ℕ) (windows : List Window) : Type 0 where
  pub over : (number t : ℕ) (window : Window) → number < count
      → slice_get windows number ≡ Some window → time ≤ t → IsInWindow window t → ⊥
