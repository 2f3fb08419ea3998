use Rattle.std.proofs.Common.{◌≡◌, ◌++◌, length}
use Rattle.aeth_network.specs.Routes.{entered_in}
use Rattle.aeth_network.proofs.tables.push_uses.Given as goal

-- The use cases of the switches that are left are still to be appended.
abbrev pub invariant-switches : goal.invariant-switches
invariant-switches l =
    l.uses.items ++ entered_in l.windows_left l.rows_left
    ≡ l.fn.uses.items ++ entered_in l.windows l.rows

-- Fewer are left.
abbrev pub decreases-switches : goal.decreases-switches
decreases-switches l = length l.windows_left
