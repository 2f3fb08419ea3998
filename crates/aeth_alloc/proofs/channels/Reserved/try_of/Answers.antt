use Rattle.std.proofs.Common.{subst, sym}
use Rattle.aeth_paths.specs.Trials.{Ascend}
use Rattle.aeth_alloc.proofs.TrialLists.{candidates-ascend, crowded-ascend}
use Rattle.aeth_alloc.proofs.channels.Reserved.try_of.Goals as goal

-- The lists of interfaces ascend.
pub invariant_of-result : goal.invariant_of-result
invariant_of-result g c = record {
  from = subst Ascend (sym c.in_ok-candidates.ensures)
      (candidates-ascend c.self.inside.seats c.sender-from.result.0);
  to = subst Ascend (sym c.in_ok-candidates-2.ensures)
      (candidates-ascend c.self.inside.seats c.receiver-to.result.0);
  crowded = subst Ascend (sym c.in_ok-crowded.ensures)
      (crowded-ascend c.self.inside.seats c.sender-from.result.0 c.receiver-to.result.0);
}
