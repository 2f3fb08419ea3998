use Rattle.std.proofs.Common.{◌≤◌, arith}
use Rattle.aeth_io.proofs.Writing.{under_way-empty, under_way-write}
use Rattle.aeth_io.proofs.sink.write_all.Goals as goal

-- A turn appends what the call took, and it was no turn of an empty text.
pub loop-rest-preserved : goal.loop-rest-preserved
loop-rest-preserved g c =
    let turn = c.loop-rest.invariant in
    let faults = g.S.Sink.faults in
    let later : faults c.loop-rest.sink ≤ faults c.write.new.self = c.write.ensures.later in
    record {
      written = under_way-write _ _ _ _ c.loop-rest.rest.now c.in_ok-taken.taken
          turn.written c.in_ok-taken.ensures.ok;
      later = omega (arith, later, turn.later);
      kept = λ empty.
          let none = under_way-empty _ _ _ c.loop-rest.rest.now turn.written empty in
          absurd (grind (arith, c.is_empty.ensures, c.loop-rest-test.ensures));
    }
