-- What holds between cycles of what a cycle needs beside the components.
-- This project's own.
use Rattle.std.proofs.Common.{◌≡◌, ◌<◌, ℕ, List, Option, All, false, length}
use Rattle.aeth_clocked.specs.declared.flit.Flit.{Flit}
use Rattle.aeth_router.specs.Onward.{CameFrom, arrival_at}
use Rattle.aeth_components.specs.{Ends.AreEnds, Wirings.Wiring, Passing.AreForwarded, Passing.Way}
use Rattle.aeth_components.specs.{Passing.forwarded_from, FlitsOnWires.flits_on}
use Rattle.aeth_components.specs.{declared.turns.Turns.Turns}

-- The ends are those of the components, and of each it is noted how it sends flits on. The flits on
-- the wires are counted, and those that go on alike in every cycle have been passed on for the next
-- one. Where no router is noted to have a table, none has.
pub record AreReady (wirings : List Wiring) (ways : List Way) (wires : List (Option Flit))
    (turns : Turns)
    : Type 0 where
  pub ends : AreEnds wirings (length wires) turns.ends
  pub noted : AreForwarded ways turns.forwarding.items
  pub flits : turns.flits ≡ flits_on wires
  pub size : length turns.onward ≡ length wires
  pub forwarded : (out : ℕ) → out < length wires → CameFrom
      (forwarded_from turns.ends.receivers.items ways wires out) (length wires)
      (arrival_at turns.onward out)
  pub tables : turns.has_tables ≡ false → All (λ way. way.by_table ≡ false) ways
