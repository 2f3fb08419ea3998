-- What holds between cycles, from one phase of a cycle to the next.
use Rattle.std.proofs.Common.{List, Option}
use Rattle.aeth_clocked.specs.declared.flit.Flit.{Flit}
use Rattle.aeth_components.specs.{Wirings.Wiring, Passing.Way, Ready.AreReady}
use Rattle.aeth_components.specs.{declared.injecting.Injecting.Injecting}
use Rattle.aeth_components.specs.{declared.turns.Turns.Turns}

-- The interfaces that may inject say nothing of it.
pub AreReady-noted : {wirings : List Wiring} {ways : List Way}
    {wires : List (Option Flit)} {turns : Turns} {injecting : Injecting}
    → AreReady wirings ways wires turns
    → AreReady wirings ways wires (record turns { injecting = injecting })
AreReady-noted ready = record {
  ends = ready.ends;
  noted = ready.noted;
  flits = ready.flits;
  size = ready.size;
  forwarded = ready.forwarded;
  tables = ready.tables;
}
