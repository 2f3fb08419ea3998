use Rattle.std.proofs.Common.{◌+◌, ◌-◌, length}
use Rattle.aeth_network.specs.Windows.{AreOver}
use Rattle.aeth_network.proofs.windows.place_behind.Given as goal

-- Those before the place are over.
abbrev pub invariant-windows : goal.invariant-windows
invariant-windows l = AreOver l.place (l.time + 1) l.windows

-- How many are left.
abbrev pub decreases-windows : goal.decreases-windows
decreases-windows l = length l.windows - l.place
