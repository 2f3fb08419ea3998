use Rattle.std.proofs.Common.{◌-◌, ℕ, length}
use Rattle.aeth_schedule.specs.{Windows.IsInWindow, declared.windows.Window.Window}
use Rattle.aeth_network.{specs.Next.HasWindow, specs.Next.IsFirstKnown, proofs.KnownFirsts.HasSeen}
use Rattle.aeth_network.proofs.windows.next_window.Given as goal

-- The first cycle of the windows so far.
abbrev pub invariant-windows : goal.invariant-windows
invariant-windows l =
    let has = λ (i : ℕ) (window : Window) (t : ℕ). IsInWindow window t in
    IsFirstKnown (HasSeen has l.windows l.at) (HasWindow l.windows) l.time l.to l.next

-- How many are left.
abbrev pub decreases-windows : goal.decreases-windows
decreases-windows l = length l.windows - l.at
