use Rattle.std.proofs.Common.{◌≡◌, ◌≤◌, [], length}
use Rattle.aeth_io.proofs.Writing.{IsUnderWay}
use Rattle.aeth_io.proofs.sink.write_all.Given as goal

abbrev pub invariant-loop-rest : goal.invariant-loop-rest
invariant-loop-rest g l = record {
  written : IsUnderWay (g.S.Sink.written l.fn.sink) (g.S.Sink.written l.sink) l.text l.rest;
  later : g.S.Sink.faults l.fn.sink ≤ g.S.Sink.faults l.sink;
  kept : l.text ≡ [] → l.sink ≡ l.fn.sink;
}

abbrev pub decreases-loop-rest : goal.decreases-loop-rest
decreases-loop-rest g l = length l.rest
