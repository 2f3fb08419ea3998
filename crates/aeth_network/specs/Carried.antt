-- The flits that a network carries.
--
--   carried_in      the flits on all wires in so many further cycles
-- This project's own.
use Rattle.std.proofs.Common.{◌+◌, ℕ, zero, suc}
use Rattle.aeth_components.specs.FlitsOnWires.{flits_on}
use Rattle.aeth_running.specs.Network.{NetworkState, played}

-- The flits on all wires, summed up over so many further cycles.
unfoldable pub carried_in : ℕ → NetworkState → ℕ
carried_in zero all = 0
carried_in (suc cycles) all =
    carried_in cycles all + flits_on (played (suc cycles) all).components.wires
